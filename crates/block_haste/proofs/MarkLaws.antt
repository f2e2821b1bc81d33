-- Marks by changes: one more event, and that nodes which are entered alike have one mark.
use Rattle.std.proofs.Common.{◌≡◌, ◌≢◌, ◌↔◌, ℕ, suc, ◌+◌, ◌<◌, ◌⊎◌, inl, inr, Bool, true, false, cond, nat_eq, Less, Option, None, Some, List, [], ◌∷◌, ◌++◌, length, map, get_or, set, take, All, AllPairs, Contains, refl, sym, ap, ◌∙◌, subst, arith, length-set, get_or-set_same, get_or-set_other}
use Rattle.std.specs.Prelude.{slice_index, slice_index_or, IsTrue}
use Rattle.std.specs.List.{filter, fold}
use Rattle.std.specs.declared.cmp.Ordering.{Ordering}
use Rattle.std.proofs.lemmas.Bool.{true≢false}
use Rattle.std.proofs.lemmas.Bool.Decides.{nat_tests}
use Rattle.std.proofs.lemmas.List.{map-append}
use Rattle.std.proofs.lemmas.List.Elements.{filter-append, All-map, All-push, Contains-push, Contains-append_left}
use Rattle.std.proofs.lemmas.List.Kept.{AllPairs-cons, AllPairs-filter}
use Rattle.std.proofs.lemmas.List.Sums.{fold-append}
use Rattle.block_haste.specs.inside.Tallies.{Key}
use Rattle.block_haste.specs.inside.Marking.{Change, mix, stands, changes_of, mark_by, AreMarkedBy}
use Rattle.block_haste.specs.inside.Hastening.{IsTouchedBy, AreTouched}
use Rattle.block_rounds.proofs.SignatureLaws.{same_number}
use Rattle.block_rounds.proofs.MapLaws.{same_or_not}
use Rattle.lore_lists.proofs.MemberLaws.{Contains-filter, unfiltered}
use Rattle.lore_lists.proofs.ListLaws.{AllPairs-unique}
use Rattle.list_laws.proofs.MemberLaws.{Contains-map, Contains-from_map}

abbrev step : (Key → Bool) → ℕ → Option ℕ → Change → Option ℕ
step still node mark change = Some (mix mark change (still (node, change.0, change.1)))

module _ (still : Key → Bool) (front : List (ℕ × Change)) (event : ℕ × Change) where
  changes_more : (node : ℕ) → changes_of node (front ++ event ∷ []) ≡ changes_of node front ++ map (λ e. e.1) (cond (nat_eq event.0 node) (event ∷ []) [])
  changes_more node =
      ap (λ (l : List (ℕ × Change)). map (λ e. e.1) l) (filter-append (λ e. nat_eq e.0 node) front (event ∷ []))
      ∙ map-append (λ (e : ℕ × Change). e.1) (filter (λ e. nat_eq e.0 node) front) (cond (nat_eq event.0 node) (event ∷ []) [])

  marked_more : (node : ℕ) → mark_by still node (front ++ event ∷ [])
      ≡ fold (step still node) (mark_by still node front) (map (λ e. e.1) (cond (nat_eq event.0 node) (event ∷ []) []))
  marked_more node =
      ap (λ (l : List Change). fold (step still node) None l) (changes_more node)
      ∙ fold-append (step still node) None (changes_of node front) (map (λ e. e.1) (cond (nat_eq event.0 node) (event ∷ []) []))

  marked_here : (node : ℕ) → event.0 ≡ node → mark_by still node (front ++ event ∷ []) ≡ step still node (mark_by still node front) event.1
  marked_here node same =
      let test : nat_eq event.0 node ≡ true = grind (arith, nat_tests) in
      marked_more node ∙ ap (λ b. fold (step still node) (mark_by still node front) (map (λ (e : ℕ × Change). e.1) (cond b (event ∷ []) []))) test

  marked_other : (node : ℕ) → event.0 ≢ node → mark_by still node (front ++ event ∷ []) ≡ mark_by still node front
  marked_other node apart =
      let test : nat_eq event.0 node ≡ false = grind (arith, nat_tests) in
      marked_more node ∙ ap (λ b. fold (step still node) (mark_by still node front) (map (λ (e : ℕ × Change). e.1) (cond b (event ∷ []) []))) test

-- one more event is marked
pub AreMarkedBy-more : (still : Key → Bool) (front : List (ℕ × Change)) (event : ℕ × Change) (marks : List (Option ℕ)) → event.0 < length marks
    → AreMarkedBy still front marks
    → AreMarkedBy still (front ++ event ∷ []) (set marks event.0 (Some (mix (get_or marks event.0 None) event.1 (still (event.0, event.1.0, event.1.1)))))
AreMarkedBy-more still front event marks within are node live =
    let value : Option ℕ = Some (mix (get_or marks event.0 None) event.1 (still (event.0, event.1.0, event.1.1))) in
    let live_before : node < length marks = omega (arith, live, length-set marks event.0 value) in
    elim (same_or_not event.0 node) [
      | inl here ↦
          subst (λ (n : ℕ). get_or (set marks event.0 value) n None ≡ mark_by still n (front ++ event ∷ [])) here
          (get_or-set_same marks event.0 value None within
          ∙ ap (λ m. Some (mix m event.1 (still (event.0, event.1.0, event.1.1)))) (are event.0 within)
          ∙ sym (marked_here still front event event.0 refl))
      | inr apart ↦
          get_or-set_other marks event.0 node value None (λ same. apart (sym same)) ∙ are node live_before ∙ sym (marked_other still front event node apart)
    ]

-- and listed
pub AreTouched-more : (marks : List (Option ℕ)) (touched next : List ℕ) (node : ℕ) (mark : Option ℕ)
    → IsTouchedBy node (get_or marks node None) touched next → AreTouched marks touched → AreTouched (set marks node mark) next
AreTouched-more marks touched next node mark by touch at = elim (same_or_not node at) [
  | inl here ↦ inr (subst (λ (n : ℕ). Contains next n) here listed)
  | inr apart ↦ elim (touch at) [
    | inl none ↦ inl (get_or-set_other marks node at mark None (λ same. apart (sym same)) ∙ none)
    | inr earlier ↦ inr (kept at earlier)
  ]
]
  where
    kept : (other : ℕ) → Contains touched other → Contains next other
    kept other held = elim by [
      | inl pushed ↦ subst (λ (l : List ℕ). Contains l other) (sym pushed) (Contains-append_left touched (node ∷ []) other held)
      | inr still ↦ subst (λ (l : List ℕ). Contains l other) (sym still.1) held
    ]

    listed : Contains next node
    listed = elim by [
      | inl pushed ↦ subst (λ (l : List ℕ). Contains l node) (sym pushed) (Contains-push touched node)
      | inr still ↦ elim (touch node) [
        | inl none ↦ absurd (still.0 none)
        | inr earlier ↦ kept node earlier
      ]
    ]

pub touched_within : (count : ℕ) (touched next : List ℕ) (node : ℕ) (mark : Option ℕ) → node < count → IsTouchedBy node mark touched next
    → All (λ n. n < count) touched → All (λ n. n < count) next
touched_within count touched next node mark low (inl pushed) before =
    subst (λ (l : List ℕ). All (λ n. n < count) l) (sym pushed) (All-push (λ n. n < count) touched node before low)
touched_within count touched next node mark low (inr still) before =
    subst (λ (l : List ℕ). All (λ n. n < count) l) (sym still.1) before

-- Fairness.

-- changes in order
abbrev pub change_order : (Change → Change → Ordering) → Change → Change → Type 0
change_order cmp a b = cmp a b ≡ Less

module _ (x : ℕ) (events : List (ℕ × Change)) where
  change_at : (change : Change) → Contains (changes_of x events) change → Contains events (x, change)
  change_at change at =
      let event = Contains-from_map (λ (e : ℕ × Change). e.1) (filter (λ e. nat_eq e.0 x) events) change at in
      let kept = unfiltered (λ (e : ℕ × Change). nat_eq e.0 x) events event.0 event.1 in
      let is : event.0 ≡ (x, change) = λ i. (same_number event.0.0 x kept.1 i, event.2 i) in
      subst (λ (e : ℕ × Change). Contains events e) is kept.0

  at_change : (change : Change) → Contains events (x, change) → Contains (changes_of x events) change
  at_change change at =
      let self : nat_eq x x ≡ true = grind (arith, nat_tests) in
      Contains-map (λ (e : ℕ × Change). e.1) (filter (λ e. nat_eq e.0 x) events) (x, change)
      (Contains-filter (λ (e : ℕ × Change). nat_eq e.0 x) events (x, change) at self)

pub AllPairs-map : {X Y : Type 0} (R : Y → Y → Type 0) (f : X → Y) (xs : List X) → AllPairs (λ a b. R (f a) (f b)) xs → AllPairs R (map f xs)
AllPairs-map R f [] pairs = λ i j d lt len. absurd (omega (arith, len))
AllPairs-map R f (x ∷ xs) pairs =
    AllPairs-cons R (f x) (map f xs)
    (All-map (R (f x)) f xs (λ k d within. pairs 0 (suc k) d (omega arith) (omega (arith, within))))
    (AllPairs-map R f xs (λ i j d lt len. pairs (suc i) (suc j) d (omega (arith, lt)) (omega (arith, len))))

-- nodes that the same changes enter, under tests that agree, have one mark
pub one_mark : (cmp : Change → Change → Ordering) (still : Key → Bool) (x y : ℕ) (events : List (ℕ × Change))
    → ((a b : Change) → change_order cmp a b → change_order cmp b a → ⊥)
    → AllPairs (change_order cmp) (changes_of x events) → AllPairs (change_order cmp) (changes_of y events)
    → ((change : Change) → Contains events (x, change) ↔ Contains events (y, change))
    → ((label tag : ℕ) → still (x, label, tag) ≡ still (y, label, tag))
    → mark_by still x events ≡ mark_by still y events
one_mark cmp still x y events once first second same agree =
    let lists : changes_of x events ≡ changes_of y events =
    AllPairs-unique (change_order cmp) once (changes_of x events) (changes_of y events) first second (λ change. (
      λ at. at_change y events change ((same change).0 (change_at x events change at)),
      λ at. at_change x events change ((same change).1 (change_at y events change at)),
    )) in
    ap (λ (l : List Change). fold (λ mark change. Some (mix mark change (still (x, change.0, change.1)))) None l) lists ∙ (λ i. fold (λ mark change. Some (mix mark change (agree change.0 change.1 i))) None (changes_of y events))
