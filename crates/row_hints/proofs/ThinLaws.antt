-- Objects that are left of others, one after another, and objects that fail.
use Rattle.std.proofs.Common.{◌≡◌, ℕ, ◌+◌, ◌<◌, ◌≤◌, ◌⊎◌, inl, inr, Bool, true, false, IsTrue, IfOk, List, [], ◌∷◌, ◌++◌, length, get_or, take, set, append-nil, Some, Result, Ok, Err, refl, sym, ap, ◌∙◌, subst, arith}
use Rattle.std.specs.List.{AllPairs, Contains, slice_get}
use Rattle.std.proofs.lemmas.Bool.{cases_eq}
use Rattle.std.proofs.lemmas.Option.{same_Some}
use Rattle.std.proofs.lemmas.List.{take_all, get_or-take, get_or_default, length-take}
use Rattle.std.proofs.lemmas.List.Quantifiers.{all_pairs_push}
use Rattle.std.proofs.lemmas.List.Elements.{Contains-append_left, Contains-push, Contains-push_cases, Contains-get_or}
use Rattle.lore_base.proofs.MemberLaws.{Contains-none, Contains-cases}
use Rattle.list_laws.proofs.PartLaws.{take_more_read}
use Rattle.index_traits.specs.PartRows.{NonePasses}
use Rattle.row_hints.specs.Types.{Oid}
use Rattle.row_hints.specs.Thinned.{FailsWith, AreThinned}
use Rattle.row_hints.specs.inside.Items.{item_unless}
use Rattle.row_hints.proofs.SlotLaws.{filled_there, filled_elsewhere}

-- Going over a list of objects.

-- each that stood before is less
pub before_there : (xs : List Oid) (i : ℕ) (x y : Oid) → AllPairs (λ (a b : Oid). a.0 < b.0) xs → i < length xs → x ≡ get_or xs i x
    → Contains (take i xs) y → y.0 < x.0
before_there xs i x y pairs within at h =
    let few : h.0 < i = omega (arith, h.1, length-take i xs) in
    let here : get_or xs h.0 y ≡ y = sym (get_or-take i xs h.0 y few) ∙ h.2 in
    let there : get_or xs i y ≡ x = get_or_default xs i y x within ∙ sym at in
    subst (λ (a : Oid). a.0 < x.0) here (subst (λ (b : Oid). (get_or xs h.0 y).0 < b.0) there (pairs h.0 i y few within))

-- an object more was looked at, and none is kept more
less_kept : (Fails : Oid → Type 0) (xs kept : List Oid) (i : ℕ) (x : Oid) → i < length xs → x ≡ get_or xs i x → Fails x
    → AreThinned Fails (take i xs) kept → AreThinned Fails (take (i + 1) xs) kept
less_kept Fails xs kept i x within at fails so_far =
    subst (λ (l : List Oid). AreThinned Fails l kept) (sym (take_more_read xs i x within at)) (record {
      ascending = so_far.ascending;
      sound = λ oid h. Contains-append_left (take i xs) (x ∷ []) oid (so_far.sound oid h);
      complete = λ oid h. elim (Contains-push_cases (take i xs) x oid h) [
        | inl early ↦ so_far.complete oid early
        | inr same ↦ inr (subst Fails same fails)
      ];
    })

-- and it is kept
more_kept : (Fails : Oid → Type 0) (xs kept : List Oid) (i : ℕ) (x : Oid) → AllPairs (λ (a b : Oid). a.0 < b.0) xs → i < length xs
    → x ≡ get_or xs i x → AreThinned Fails (take i xs) kept → AreThinned Fails (take (i + 1) xs) (kept ++ x ∷ [])
more_kept Fails xs kept i x ascend within at so_far =
    subst (λ (l : List Oid). AreThinned Fails l (kept ++ x ∷ [])) (sym (take_more_read xs i x within at)) (record {
      ascending = all_pairs_push (λ (a b : Oid). a.0 < b.0) kept x so_far.ascending (λ k d less.
          before_there xs i x (get_or kept k d) ascend within at (so_far.sound (get_or kept k d) (Contains-get_or kept k d less)));
      sound = λ oid h. elim (Contains-push_cases kept x oid h) [
        | inl early ↦ Contains-append_left (take i xs) (x ∷ []) oid (so_far.sound oid early)
        | inr same ↦ subst (Contains (take i xs ++ x ∷ [])) same (Contains-push (take i xs) x)
      ];
      complete = λ oid h. elim (Contains-push_cases (take i xs) x oid h) [
        | inl early ↦ elim (so_far.complete oid early) [
          | inl there ↦ inl (Contains-append_left kept (x ∷ []) oid there)
          | inr gone ↦ inr gone
        ]
        | inr same ↦ inl (subst (Contains (kept ++ x ∷ [])) same (Contains-push kept x))
      ];
    })

pub thinned_none : (Fails : Oid → Type 0) (kept : List Oid) → kept ≡ [] → AreThinned Fails [] kept
thinned_none Fails kept empty = record {
  ascending = subst (AllPairs (λ (a b : Oid). a.0 < b.0)) (sym empty) (λ i j d less within. absurd (omega (arith, within)));
  sound = λ oid at. subst (λ (l : List Oid). Contains l oid) empty at;
  complete = λ oid at. absurd (Contains-none oid at);
}

thinned_by : (Fails : Oid → Type 0) (xs kept new : List Oid) (i : ℕ) (x : Oid) (out : Bool) → AllPairs (λ (a b : Oid). a.0 < b.0) xs
    → i < length xs → x ≡ get_or xs i x → new ≡ kept ++ item_unless out x → (IsTrue out → Fails x)
    → AreThinned Fails (take i xs) kept → AreThinned Fails (take (i + 1) xs) new
thinned_by Fails xs kept new i x true ascend within at is fails so_far =
    subst (AreThinned Fails (take (i + 1) xs)) (sym (is ∙ append-nil kept)) (less_kept Fails xs kept i x within at (fails refl) so_far)
thinned_by Fails xs kept new i x false ascend within at is fails so_far =
    subst (AreThinned Fails (take (i + 1) xs)) (sym is) (more_kept Fails xs kept i x ascend within at so_far)

pub thinned_at : (Fails : Oid → Type 0) (xs kept new : List Oid) (i : ℕ) (d : Oid) (out : Bool) → AllPairs (λ (a b : Oid). a.0 < b.0) xs
    → i < length xs → new ≡ kept ++ item_unless out (get_or xs i d) → (IsTrue out → Fails (get_or xs i d))
    → AreThinned Fails (take i xs) kept → AreThinned Fails (take (i + 1) xs) new
thinned_at Fails xs kept new i d out ascend within is fails so_far =
    thinned_by Fails xs kept new i (get_or xs i d) out ascend within (get_or_default xs i d (get_or xs i d) within) is fails so_far

pub thinned_all : (Fails : Oid → Type 0) (xs kept : List Oid) (i : ℕ) → length xs ≤ i → AreThinned Fails (take i xs) kept → AreThinned Fails xs kept
thinned_all Fails xs kept i past so_far = subst (λ (l : List Oid). AreThinned Fails l kept) (take_all i xs past) so_far

-- A row is ruled out with an object in a slot.
pub ruled_out_fails : (Passes : List Oid → Type 0) (known more : List Bool) (slot : ℕ) (row filled : List Oid) (oid : Oid) → slot < length row
    → filled ≡ set row slot oid → ((own : ℕ) → slice_get more own ≡ Some true → (slice_get known own ≡ Some true) ⊎ (Some slot ≡ Some own))
    → NonePasses Passes more filled → FailsWith Passes known slot row oid
ruled_out_fails Passes known more slot row filled oid within is marked none other completes there =
    none other (record {
      eight = completes.eight;
      agree = λ own mark. ap (λ (r : List Oid). slice_get r own) is ∙ agree own (marked own mark);
      passes = completes.passes;
    })
  where
    agree : (own : ℕ) → (slice_get known own ≡ Some true) ⊎ (Some slot ≡ Some own) → slice_get (set row slot oid) own ≡ slice_get other own
    agree own before = elim (cases_eq own slot) [
      | inl here ↦ ap (slice_get (set row slot oid)) here ∙ filled_there row slot oid within ∙ sym there ∙ ap (slice_get other) (sym here)
      | inr elsewhere ↦ elim before [
        | inl mark ↦ filled_elsewhere row slot own oid elsewhere ∙ completes.agree own mark
        | inr same ↦ absurd (elsewhere (sym (same_Some slot own same)))
      ]
    ]

-- and so where a test tells
pub out_fails : {E : Type 0} (Passes : List Oid → Type 0) (known more : List Bool) (slot : ℕ) (row filled : List Oid) (oid : Oid) (result : Result Bool E)
    → slot < length row → filled ≡ set row slot oid
    → ((own : ℕ) → slice_get more own ≡ Some true → (slice_get known own ≡ Some true) ⊎ (Some slot ≡ Some own))
    → IfOk result (λ out. IsTrue out → NonePasses Passes more filled) → IfOk result (λ out. IsTrue out → FailsWith Passes known slot row oid)
out_fails Passes known more slot row filled oid (Ok out) within is marked tells =
    λ yes. ruled_out_fails Passes known more slot row filled oid within is marked (tells yes)
out_fails Passes known more slot row filled oid (Err error) within is marked tells = tt

-- Objects that are left out of what is left, and for other causes.

pub thinned_not : (Fails : Oid → Type 0) (oids : List Oid) → AllPairs (λ (a b : Oid). a.0 < b.0) oids → AreThinned Fails oids oids
thinned_not Fails oids ascend = record { ascending = ascend; sound = λ oid at. at; complete = λ oid at. inl at }

pub thinned_then : (Fails : Oid → Type 0) (first second third : List Oid) → AreThinned Fails first second → AreThinned Fails second third
    → AreThinned Fails first third
thinned_then Fails first second third one two = record {
  ascending = two.ascending;
  sound = λ oid at. one.sound oid (two.sound oid at);
  complete = λ oid at. elim (one.complete oid at) [
    | inl there ↦ two.complete oid there
    | inr fails ↦ inr fails
  ];
}

-- one object that fails is left out
pub thinned_one : (Fails : Oid → Type 0) (oid : Oid) → Fails oid → AreThinned Fails (oid ∷ []) []
thinned_one Fails oid fails = record {
  ascending = λ i j d less within. absurd (omega (arith, within));
  sound = λ own at. absurd (Contains-none own at);
  complete = λ own at. elim (Contains-cases oid [] own at) [
    | inl same ↦ inr (subst Fails same fails)
    | inr behind ↦ absurd (Contains-none own behind)
  ];
}
