-- Ascending objects: what is left of them behind a place.
use Rattle.std.proofs.Common.{◌≡◌, ◌⊎◌, inl, inr, ℕ, ◌+◌, ◌<◌, ◌≤◌, List, length, get_or, drop, sym, ap, subst, ◌∙◌, arith, length-drop}
use Rattle.std.specs.List.{Contains}
use Rattle.std.proofs.lemmas.Bool.{cases_lt}
use Rattle.std.proofs.lemmas.List.{get_or_default, get_or-drop}
use Rattle.lore_base.specs.Databases.{AreAscendingObjects, IsLive}
use Rattle.lore_base.proofs.MemberLaws.{Contains-cases}
use Rattle.list_laws.proofs.PartLaws.{drop_more_read}
use Rattle.live_views.specs.Types.{Oid, Value}

module _ (objects : List (Oid × Value)) (i : ℕ) where
  pub none_left : length objects ≤ i → (oid : Oid) → IsLive (drop i objects) oid → ⊥
  none_left past oid (value, (place, within, is)) = let long = length-drop i objects in omega (arith, within, long, past)

  module _ (x : Oid × Value) (low : i < length objects) (at : x ≡ get_or objects i x) where
    -- what is live from a place on is the object there, or is live behind it
    pub leave_first : (oid : Oid) → IsLive (drop i objects) oid → (x.0 ≡ oid) ⊎ IsLive (drop (i + 1) objects) oid
    leave_first oid (value, there) =
        elim (Contains-cases x (drop (i + 1) objects) (oid, value)
        (subst (λ (l : List (Oid × Value)). Contains l (oid, value)) (drop_more_read objects i x low at) there)) [
          | inl same ↦ inl (ap (λ (o : Oid × Value). o.0) same)
          | inr later ↦ inr (value, later)
        ]

    -- and its number is no lower than that one's
    pub not_below : AreAscendingObjects objects → (oid : Oid) → IsLive (drop i objects) oid → x.0.0 ≤ oid.0
    not_below ascend oid (value, (place, within, is)) =
        let d : Oid × Value = (oid, value) in
        let long = length-drop i objects in
        let own : get_or objects i d ≡ x = get_or_default objects i d x low ∙ sym at in
        let own_number = ap (λ (o : Oid × Value). o.0.0) own in
        let there : get_or objects (i + place) d ≡ d = sym (get_or-drop i objects place d) ∙ is in
        let number = ap (λ (o : Oid × Value). o.0.0) there in
        elim (cases_lt 0 place) [
          | inl above ↦ (let rises = ascend i (i + place) d (omega (arith, above)) (omega (arith, within, long, low)) in omega (arith, rises, own_number, number))
          | inr here ↦
              let none : i + place ≡ i = omega (arith, here) in
              let same = subst (λ (p : ℕ). (get_or objects p d).0.0 ≡ oid.0) none number in
              omega (arith, same, own_number)
        ]

-- where the numbers at two places are the same, so is the object
pub shared_here : (gone come : List (Oid × Value)) (i j : ℕ) (x y : Oid × Value) → i < length gone → j < length come → x ≡ get_or gone i x
    → y ≡ get_or come j y → (get_or gone i x).0.0 ≡ (get_or come j y).0.0 → (oid : Oid) × IsLive gone oid × IsLive come oid
shared_here gone come i j x y low near at_x at_y same =
    let number : y.0.0 ≡ x.0.0 = ap (λ (o : Oid × Value). o.0.0) at_y ∙ sym same ∙ sym (ap (λ (o : Oid × Value). o.0.0) at_x) in
    let oid : y.0 ≡ x.0 = λ k. record { 0 = number k } in
    (x.0, (x.1, (i, low, sym at_x)), (y.1, subst (λ (o : Oid). Contains come (o, y.1)) oid (j, near, sym at_y)))
