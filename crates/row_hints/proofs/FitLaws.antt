-- Objects that lists have in common, and those that are left by lists of objects that fit.
use Rattle.std.proofs.Common.{◌≡◌, ℕ, ◌+◌, ◌<◌, ◌≤◌, ◌↔◌, inl, inr, Bool, true, false, IsTrue, true≢false, List, [], ◌∷◌, ◌++◌, length, get_or, take, append-nil, Some, refl, sym, ◌∙◌, subst, arith}
use Rattle.std.specs.List.{AllPairs, Contains, slice_get}
use Rattle.std.proofs.lemmas.Option.{same_Some}
use Rattle.std.proofs.lemmas.List.{take_all, get_or_default}
use Rattle.std.proofs.lemmas.List.Quantifiers.{all_pairs_push}
use Rattle.std.proofs.lemmas.List.Elements.{Contains-append_left, Contains-push, Contains-push_cases, Contains-get_or}
use Rattle.lore_base.specs.TargetSets.{ListsInOrder}
use Rattle.lore_base.proofs.MemberLaws.{Contains-none}
use Rattle.lore_base.proofs.ToldLaws.{told_oid, told_member}
use Rattle.list_laws.proofs.PartLaws.{take_more_read}
use Rattle.index_traits.specs.PartRows.{Completes, AreAllThatFit}
use Rattle.row_hints.specs.Types.{Oid}
use Rattle.row_hints.specs.Thinned.{FailsWith, AreThinned}
use Rattle.row_hints.specs.Told.{AreAllInSlot}
use Rattle.row_hints.specs.inside.Items.{item_if}
use Rattle.row_hints.proofs.ThinLaws.{before_there}

-- Lists that have an object in common.

pub common_none : (xs list kept : List Oid) → kept ≡ [] → ListsInOrder (λ oid. Contains (take 0 xs) oid × Contains list oid) kept
common_none xs list kept empty = record {
  ascending = subst (AllPairs (λ (a b : Oid). a.0 < b.0)) (sym empty) (λ i j d less within. absurd (omega (arith, within)));
  exact = λ oid. (
    λ at. absurd (Contains-none oid (subst (λ (l : List Oid). Contains l oid) empty at)),
    λ both. absurd (Contains-none oid both.0),
  );
}

common_by : (xs list kept new : List Oid) (i : ℕ) (x : Oid) (there : Bool) → AllPairs (λ (a b : Oid). a.0 < b.0) xs → i < length xs
    → x ≡ get_or xs i x → new ≡ kept ++ item_if there x → IsTrue there ↔ Contains list x
    → ListsInOrder (λ oid. Contains (take i xs) oid × Contains list oid) kept → ListsInOrder (λ oid. Contains (take (i + 1) xs) oid × Contains list oid) new
common_by xs list kept new i x true ascend within at is tells so_far =
    subst (ListsInOrder (λ (oid : Oid). Contains (take (i + 1) xs) oid × Contains list oid)) (sym is)
    (subst (λ (l : List Oid). ListsInOrder (λ (oid : Oid). Contains l oid × Contains list oid) (kept ++ x ∷ [])) (sym (take_more_read xs i x within at)) (record {
      ascending = all_pairs_push (λ (a b : Oid). a.0 < b.0) kept x so_far.ascending (λ k d less.
          before_there xs i x (get_or kept k d) ascend within at ((so_far.exact (get_or kept k d)).0 (Contains-get_or kept k d less)).0);
      exact = λ oid. (
        λ h. elim (Contains-push_cases kept x oid h) [
          | inl early ↦ (let got = (so_far.exact oid).0 early in (Contains-append_left (take i xs) (x ∷ []) oid got.0, got.1))
          | inr same ↦ subst (λ (z : Oid). Contains (take i xs ++ x ∷ []) z × Contains list z) same (Contains-push (take i xs) x, tells.0 refl)
        ],
        λ h. elim (Contains-push_cases (take i xs) x oid h.0) [
          | inl early ↦ Contains-append_left kept (x ∷ []) oid ((so_far.exact oid).1 (early, h.1))
          | inr same ↦ subst (Contains (kept ++ x ∷ [])) same (Contains-push kept x)
        ],
      );
    }))
common_by xs list kept new i x false ascend within at is tells so_far =
    subst (ListsInOrder (λ (oid : Oid). Contains (take (i + 1) xs) oid × Contains list oid)) (sym (is ∙ append-nil kept))
    (subst (λ (l : List Oid). ListsInOrder (λ (oid : Oid). Contains l oid × Contains list oid) kept) (sym (take_more_read xs i x within at)) (record {
      ascending = so_far.ascending;
      exact = λ oid. (
        λ h. (let got = (so_far.exact oid).0 h in (Contains-append_left (take i xs) (x ∷ []) oid got.0, got.1)),
        λ h. elim (Contains-push_cases (take i xs) x oid h.0) [
          | inl early ↦ (so_far.exact oid).1 (early, h.1)
          | inr same ↦ absurd (true≢false (sym (tells.1 (subst (Contains list) (sym same) h.1))))
        ],
      );
    }))

pub common_at : (xs list kept new : List Oid) (i : ℕ) (d : Oid) (there : Bool) → AllPairs (λ (a b : Oid). a.0 < b.0) xs → i < length xs
    → new ≡ kept ++ item_if there (get_or xs i d) → IsTrue there ↔ Contains list (get_or xs i d)
    → ListsInOrder (λ oid. Contains (take i xs) oid × Contains list oid) kept → ListsInOrder (λ oid. Contains (take (i + 1) xs) oid × Contains list oid) new
common_at xs list kept new i d there ascend within is tells so_far =
    common_by xs list kept new i (get_or xs i d) there ascend within (get_or_default xs i d (get_or xs i d) within) is tells so_far

pub common_all : (xs list kept : List Oid) (i : ℕ) → length xs ≤ i → ListsInOrder (λ oid. Contains (take i xs) oid × Contains list oid) kept
    → ListsInOrder (λ oid. Contains xs oid × Contains list oid) kept
common_all xs list kept i past so_far =
    subst (λ (l : List Oid). ListsInOrder (λ (oid : Oid). Contains l oid × Contains list oid) kept) (take_all i xs past) so_far

pub common_turned : (a b kept : List Oid) → ListsInOrder (λ oid. Contains b oid × Contains a oid) kept → ListsInOrder (λ oid. Contains a oid × Contains b oid) kept
common_turned a b kept lists = record {
  ascending = lists.ascending;
  exact = λ oid. ((λ at. let got = (lists.exact oid).0 at in (got.1, got.0)), (λ both. (lists.exact oid).1 (both.1, both.0)));
}

-- where each row that passes has one of these in the slot, others fail
fit_thins : (Passes : List Oid → Type 0) (known : List Bool) (slot : ℕ) (row oids fit few : List Oid)
    → ((other : List Oid) → Completes Passes known row other → (oid : Oid) × (slice_get other slot ≡ Some oid) × Contains fit oid)
    → ListsInOrder (λ oid. Contains oids oid × Contains fit oid) few → AreThinned (FailsWith Passes known slot row) oids few
fit_thins Passes known slot row oids fit few all both = record {
  ascending = both.ascending;
  sound = λ oid at. ((both.exact oid).0 at).0;
  complete = λ oid at. elim (told_member told_oid fit oid) [
    | inl there ↦ inl ((both.exact oid).1 (at, there))
    | inr missing ↦ inr (λ other completes is.
        (let got = all other completes in
        missing (subst (Contains fit) (same_Some got.0 oid (sym got.1 ∙ is)) got.2)))
  ];
}

pub fitting_thins : (Passes : List Oid → Type 0) (known : List Bool) (slot : ℕ) (row oids fit few : List Oid) → AreAllThatFit Passes known slot row fit
    → ListsInOrder (λ oid. Contains oids oid × Contains fit oid) few → AreThinned (FailsWith Passes known slot row) oids few
fitting_thins Passes known slot row oids fit few fits both = fit_thins Passes known slot row oids fit few fits.all both

pub told_thins : (Passes : List Oid → Type 0) (known : List Bool) (slot : ℕ) (row oids fit few : List Oid) → AreAllInSlot Passes slot fit
    → ListsInOrder (λ oid. Contains oids oid × Contains fit oid) few → AreThinned (FailsWith Passes known slot row) oids few
told_thins Passes known slot row oids fit few told both =
    fit_thins Passes known slot row oids fit few (λ other completes. told.all other completes.eight completes.passes) both

-- what is told of a slot leaves out an object that isn't listed
pub told_fails : (Passes : List Oid → Type 0) (known : List Bool) (slot : ℕ) (row fit : List Oid) (oid : Oid) → AreAllInSlot Passes slot fit
    → (Contains fit oid → ⊥) → FailsWith Passes known slot row oid
told_fails Passes known slot row fit oid told missing other completes is =
    let got = told.all other completes.eight completes.passes in
    missing (subst (Contains fit) (same_Some got.0 oid (sym got.1 ∙ is)) got.2)
