-- What was told of slots, and what is put in its place.
use Rattle.std.proofs.Common.{◌≡◌, ℕ, zero, suc, ◌<◌, inl, inr, Bool, true, false, List, length, set, replicate, Option, None, Some, IfSome, sym, ap, ◌∙◌, subst}
use Rattle.std.specs.List.{All, slice_get}
use Rattle.std.proofs.lemmas.Bool.{cases_eq, false≢true}
use Rattle.std.proofs.lemmas.Option.{none-some, same_Some}
use Rattle.std.proofs.lemmas.List.Elements.{All-contains}
use Rattle.list_laws.proofs.PlaceLaws.{Contains-from_place}
use Rattle.index_traits.specs.PartRows.{AreAllThatFit}
use Rattle.row_hints.specs.Types.{Oid, Told, Unasked, Nothing, Fits}
use Rattle.row_hints.specs.Told.{IsTold, AreTold, IsUnasked, IsPut, told_by}
use Rattle.row_hints.proofs.SlotLaws.{filled_there, filled_elsewhere}

unasked_is : (Passes : List Oid → Type 0) (slot : ℕ) (told : Told) → IsUnasked told → IsTold Passes slot told
unasked_is Passes slot (Unasked seen) is = tt
unasked_is Passes slot Nothing is = tt
unasked_is Passes slot (Fits oids) is = absurd is

-- where no slot was asked for, all is told that is
pub unasked_told : (Passes : List Oid → Type 0) (list : List Told) → All IsUnasked list → AreTold Passes list
unasked_told Passes list all slot told at = unasked_is Passes slot told (All-contains IsUnasked list told all (Contains-from_place list slot told at))

-- what is told of one slot more
told_set : (Passes : List Oid → Type 0) (list new : List Told) (place : ℕ) (told : Told) → place < length list → new ≡ set list place told
    → IsTold Passes place told → AreTold Passes list → AreTold Passes new
told_set Passes list new place told within is so old slot own at =
    let there : slice_get (set list place told) slot ≡ Some own = subst (λ (l : List Told). slice_get l slot ≡ Some own) is at in
    elim (cases_eq slot place) [
      | inl here ↦
          let same : told ≡ own = same_Some told own (sym (filled_there list place told within) ∙ ap (slice_get (set list place told)) (sym here) ∙ there) in
          subst (λ (n : ℕ). IsTold Passes n own) (sym here) (subst (IsTold Passes place) same so)
      | inr elsewhere ↦ old slot own (sym (filled_elsewhere list place slot told elsewhere) ∙ there)
    ]

pub told_put : (Passes : List Oid → Type 0) (list new : List Told) (slot : ℕ) (told : Told) → IsPut slot told list new → IsTold Passes slot told
    → AreTold Passes list → AreTold Passes new
told_put Passes list new slot told (inl same) so old = subst (AreTold Passes) (sym same) old
told_put Passes list new slot told (inr put) so old = told_set Passes list new slot told put.0 put.1 so old

-- no slot is marked to begin with
pub none_known : (n own : ℕ) → slice_get (replicate n false) own ≡ Some true → ⊥
none_known zero own mark = none-some true mark
none_known (suc n) zero mark = false≢true (same_Some false true mark)
none_known (suc n) (suc own) mark = none_known n own mark

-- what fits a slot where no other is known
pub told_fits : (Passes : List Oid → Type 0) (slot : ℕ) (row : List Oid) (known : List Bool) (found : Option (List Oid))
    → ((own : ℕ) → slice_get known own ≡ Some true → ⊥) → IfSome found (AreAllThatFit Passes known slot row) → IsTold Passes slot (told_by found)
told_fits Passes slot row known None none fits = tt
told_fits Passes slot row known (Some oids) none fits = record {
  ascend = fits.ascend;
  all = λ other eight passes. fits.all other (record {
    eight = eight;
    agree = λ own mark. absurd (none own mark);
    passes = passes;
  });
}
