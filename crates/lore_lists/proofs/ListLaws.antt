-- Lists: grown at their end, in pairs, and without repetition in an order.
use Rattle.std.proofs.Common.{◌≡◌, ℕ, ◌-◌, ◌<◌, ◌↔◌, inl, inr, suc, List, [], ◌∷◌, ◌++◌, length, get_or, AllPairs, subst, refl, sym, ap, ◌∙◌, append_assoc, arith, length-append}
use Rattle.std.specs.List.{Contains}
use Rattle.std.proofs.lemmas.Bool.{cases_lt}
use Rattle.std.proofs.lemmas.List.{get_or_append_left, get_or-append_right}
use Rattle.lore_lists.specs.Lists.{Extends}
use Rattle.lore_lists.proofs.MemberLaws.{Contains-none, Contains-head, Contains-tail, Contains-cases}

-- a list that grew at its end
pub Extends-push : {X : Type 0} (old middle new : List X) (x : X) → new ≡ middle ++ x ∷ [] → Extends old middle → Extends old new
Extends-push {X} old middle new x pushed before =
    (before.0 ++ x ∷ [], pushed ∙ ap (λ (front : List X). front ++ x ∷ []) before.1 ∙ append_assoc old before.0 (x ∷ []))

pub Extends-same : {X : Type 0} (old middle new : List X) → new ≡ middle → Extends old middle → Extends old new
Extends-same old middle new same before = (before.0, same ∙ before.1)

-- pairs within the parts and across them are the pairs of the whole
pub AllPairs-append : {X : Type 0} (R : X → X → Type 0) (xs ys : List X) → AllPairs R xs → AllPairs R ys
    → ((i j : ℕ) (d : X) → i < length xs → j < length ys → R (get_or xs i d) (get_or ys j d)) → AllPairs R (xs ++ ys)
AllPairs-append R xs ys first second across i j d lt len =
    let total = length-append xs ys in
    elim (cases_lt j (length xs)) [
      | inl early ↦ let early_i : i < length xs = omega arith in rw (get_or_append_left xs ys d i early_i, get_or_append_left xs ys d j early) (first i j d lt early)
      | inr late ↦ elim (cases_lt i (length xs)) [
        | inl early_i ↦ rw (get_or_append_left xs ys d i early_i, get_or-append_right xs ys (length xs) j d refl late) (across i (j - length xs) d early_i (omega arith))
        | inr late_i ↦ rw (get_or-append_right xs ys (length xs) i d refl late_i, get_or-append_right xs ys (length xs) j d refl late) (second (i - length xs) (j - length xs) d (omega arith) (omega arith))
      ]
    ]

pub AllPairs-tail : {X : Type 0} (R : X → X → Type 0) (x : X) (xs : List X) → AllPairs R (x ∷ xs) → AllPairs R xs
AllPairs-tail R x xs pairs i j d lt len = pairs (suc i) (suc j) d (omega (arith, lt)) (omega (arith, len))

pub AllPairs-head : {X : Type 0} (R : X → X → Type 0) (x : X) (xs : List X) → AllPairs R (x ∷ xs) → (y : X) → Contains xs y → R x y
AllPairs-head R x xs pairs y at = subst (R x) at.2 (pairs 0 (suc at.0) y (omega arith) (omega (arith, at.1)))

module _ {X : Type 0} (R : X → X → Type 0) (once : (x y : X) → R x y → R y x → ⊥) where
  -- of two lists in an order the first items are the same, where they have the same items
  same_first : (x y : X) (xs ys : List X) → AllPairs R (x ∷ xs) → AllPairs R (y ∷ ys)
      → ((z : X) → Contains (x ∷ xs) z ↔ Contains (y ∷ ys) z) → x ≡ y
  same_first x y xs ys in_xs in_ys same = elim (Contains-cases y ys x ((same x).0 (Contains-head x xs))) [
    | inl is ↦ sym is
    | inr later ↦ elim (Contains-cases x xs y ((same y).1 (Contains-head y ys))) [
      | inl is ↦ is
      | inr late ↦ absurd (once x y (AllPairs-head R x xs in_xs y late) (AllPairs-head R y ys in_ys x later))
    ]
  ]

  -- what stands behind the first item, in the one list and so in the other
  in_tail : (x y : X) (xs ys : List X) → x ≡ y → AllPairs R (x ∷ xs) → ((z : X) → Contains (x ∷ xs) z → Contains (y ∷ ys) z)
      → (z : X) → Contains xs z → Contains ys z
  in_tail x y xs ys is in_xs within z at = elim (Contains-cases y ys z (within z (Contains-tail x xs z at))) [
    | inl first ↦
        let here : R x x = subst (R x) (sym (is ∙ first)) (AllPairs-head R x xs in_xs z at) in
        absurd (once x x here here)
    | inr later ↦ later
  ]

  -- two lists in an order are one where they have the same items
  pub AllPairs-unique : (xs ys : List X) → AllPairs R xs → AllPairs R ys → ((z : X) → Contains xs z ↔ Contains ys z) → xs ≡ ys
  AllPairs-unique [] [] in_xs in_ys same = refl
  AllPairs-unique [] (y ∷ ys) in_xs in_ys same = absurd (Contains-none y ((same y).1 (Contains-head y ys)))
  AllPairs-unique (x ∷ xs) [] in_xs in_ys same = absurd (Contains-none x ((same x).0 (Contains-head x xs)))
  AllPairs-unique (x ∷ xs) (y ∷ ys) in_xs in_ys same =
      let is = same_first x y xs ys in_xs in_ys same in
      let others = AllPairs-unique xs ys (AllPairs-tail R x xs in_xs) (AllPairs-tail R y ys in_ys)
      (λ z. (in_tail x y xs ys is in_xs (λ w. (same w).0) z, in_tail y x ys xs (sym is) in_ys (λ w. (same w).1) z)) in
      cc
