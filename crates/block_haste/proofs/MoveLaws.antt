-- Moves of nodes to other numbers, listed first and written then.
use Rattle.std.proofs.Common.{◌≡◌, ◌≢◌, ℕ, ◌+◌, ◌<◌, ◌⊎◌, inl, inr, Option, None, Some, List, [], ◌∷◌, ◌++◌, length, get_or, set, take, All, Contains, refl, sym, ap, ◌∙◌, subst, arith, length-set, get_or-set_same, get_or-set_other}
use Rattle.std.specs.Prelude.{slice_index, slice_index_or}
use Rattle.std.proofs.lemmas.List.Elements.{All-push, All-weaker, All-more, All-contains, Contains-append_left, Contains-append_cases, Contains-push, Contains-push_cases}
use Rattle.block_rounds.specs.Given.{IsGiven, Keeps, StayTogether}
use Rattle.block_haste.specs.inside.Hastening.{AreMovesBy, AreMoves, AreWritten, AreTouched, AreSwaps, AreRenamed, AreChanged}
use Rattle.lore_lists.proofs.MemberLaws.{Contains-none}
use Rattle.block_rounds.proofs.MapLaws.{same_or_not}
use Rattle.block_rounds.proofs.RenumberLaws.{IsGiven-kept, IsGiven-one}

-- no move is written
pub AreWritten-none : (old : List ℕ) → AreWritten [] old old
AreWritten-none old node live = inr (refl, λ number at. absurd (Contains-none (node, number) at))

-- one more move is written
pub AreWritten-more : (moves : List (ℕ × ℕ)) (move : ℕ × ℕ) (old new : List ℕ) → length new ≡ length old → move.0 < length old → AreWritten moves old new
    → AreWritten (moves ++ move ∷ []) old (set new move.0 move.1)
AreWritten-more moves move old new long within written node live = elim (same_or_not move.0 node) [
  | inl here ↦
      let placed : move.0 < length new = omega (arith, long, within) in
      let read : get_or (set new move.0 move.1) move.0 0 ≡ move.1 = get_or-set_same new move.0 move.1 0 placed in
      let is : move ≡ (node, get_or (set new move.0 move.1) node 0) = λ i. (here i, (sym read ∙ ap (λ (k : ℕ). get_or (set new move.0 move.1) k 0) here) i) in
      inl (subst (λ (m : ℕ × ℕ). Contains (moves ++ move ∷ []) m) is (Contains-push moves move))
  | inr apart ↦
      let other : node ≢ move.0 = λ same. apart (sym same) in
      let read : get_or (set new move.0 move.1) node 0 ≡ get_or new node 0 = get_or-set_other new move.0 node move.1 0 other in
      elim (written node live) [
        | inl at ↦ inl (subst (λ (n : ℕ). Contains (moves ++ move ∷ []) (node, n)) (sym read) (Contains-append_left moves (move ∷ []) (node, get_or new node 0) at))
        | inr kept ↦ inr (
          read ∙ kept.0,
          λ number at. elim (Contains-push_cases moves move (node, number) at) [
            | inl earlier ↦ kept.1 number earlier
            | inr last ↦ apart (ap (λ (m : ℕ × ℕ). m.0) last)
          ],
        )
      ]
]

-- nodes that are moved as their marks give it stay together by their marks
pub StayTogether-moved : (touched numbers : List ℕ) (marks : List (Option ℕ)) (moves : List (ℕ × ℕ)) (next : List ℕ) → AreMoves touched numbers marks moves
    → AreTouched marks touched → AreWritten moves numbers next → StayTogether numbers marks next
StayTogether-moved touched numbers marks moves next are touch written x y x_live y_live same one_mark =
    let first = given x x_live in
    let second = given y y_live in
    let moved : IsGiven are.0 (slice_index numbers x) (slice_index_or marks x None) (slice_index next y) =
    subst (λ (n : ℕ). IsGiven are.0 n (slice_index_or marks x None) (slice_index next y)) (sym same)
    (subst (λ (m : Option ℕ). IsGiven are.0 (slice_index numbers y) m (slice_index next y)) (sym one_mark) second) in
    IsGiven-one are.0 (slice_index numbers x) (slice_index_or marks x None) (slice_index next x) (slice_index next y) first moved
  where
    given : (node : ℕ) → node < length numbers → IsGiven are.0 (slice_index numbers node) (slice_index_or marks node None) (slice_index next node)
    given node live = elim (written node live) [
      | inl at ↦ All-contains (λ (m : ℕ × ℕ). IsGiven are.0 (slice_index numbers m.0) (slice_index_or marks m.0 None) m.1) moves (node, slice_index next node) are.1.given at
      | inr kept ↦ elim (touch node) [
        | inl none ↦ subst (λ (m : Option ℕ). IsGiven are.0 (slice_index numbers node) m (slice_index next node)) (sym none) (sym kept.0)
        | inr at ↦
            let move = All-contains (λ (n : ℕ). (number : ℕ) × Contains moves (n, number)) touched node are.1.every at in
            absurd (kept.1 move.0 move.1)
      ]
    ]

-- one more touched node is moved
pub AreMovesBy-more : (old new : ℕ × ℕ → Option ℕ) (front touched numbers : List ℕ) (marks : List (Option ℕ)) (moves pushed : List (ℕ × ℕ)) (node given : ℕ) → Keeps old new
    → touched ≡ front ++ node ∷ [] → pushed ≡ moves ++ (node, given) ∷ [] → IsGiven new (slice_index numbers node) (slice_index_or marks node None) given
    → AreMovesBy old front numbers marks moves → AreMovesBy new touched numbers marks pushed
AreMovesBy-more old new front touched numbers marks moves pushed node given keeps more pushes is before =
    let Given : ℕ × ℕ → Type 0 = λ move. IsGiven new (slice_index numbers move.0) (slice_index_or marks move.0 None) move.1 in
    let kept = All-weaker (λ move. IsGiven old (slice_index numbers move.0) (slice_index_or marks move.0 None) move.1) Given
    (λ move g. IsGiven-kept old new (slice_index numbers move.0) (slice_index_or marks move.0 None) move.1 keeps g) moves before.given in
    let Moved : ℕ → Type 0 = λ n. (number : ℕ) × Contains (moves ++ (node, given) ∷ []) (n, number) in
    let earlier = All-weaker (λ n. (number : ℕ) × Contains moves (n, number)) Moved
    (λ n at. (at.0, Contains-append_left moves ((node, given) ∷ []) (n, at.0) at.1)) front before.every in
    record {
      given = subst (λ (l : List (ℕ × ℕ)). All Given l) (sym pushes) (All-push Given moves (node, given) kept is);
      every = subst (λ (l : List (ℕ × ℕ)). All (λ n. (number : ℕ) × Contains l (n, number)) touched) (sym pushes)
          (subst (λ (t : List ℕ). All Moved t) (sym more) (All-push Moved front node earlier (given, Contains-push moves (node, given))));
      only = subst (λ (l : List (ℕ × ℕ)). All (λ move. Contains touched move.0) l) (sym pushes)
          (subst (λ (t : List ℕ). All (λ (move : ℕ × ℕ). Contains t move.0) (moves ++ (node, given) ∷ [])) (sym more)
          (All-push (λ (move : ℕ × ℕ). Contains (front ++ node ∷ []) move.0) moves (node, given)
          (All-weaker (λ (move : ℕ × ℕ). Contains front move.0) (λ (move : ℕ × ℕ). Contains (front ++ node ∷ []) move.0)
          (λ move at. Contains-append_left front (node ∷ []) move.0 at) moves before.only)
          (Contains-push front node)));
    }

-- the number that the swap of two blocks makes of a number
IsTarget : ℕ → ℕ → ℕ → ℕ → Type 0
IsTarget one other number target = ((number ≡ one) × (target ≡ other) ⊎ (number ≡ other) × (target ≡ one))
    ⊎ ((number ≢ one) × (number ≢ other) × (target ≡ number))

target_one : (one other number a b : ℕ) → IsTarget one other number a → IsTarget one other number b → a ≡ b
unfolding IsTarget
target_one one other number a b (inl (inl first)) (inl (inl second)) = first.1 ∙ sym second.1
target_one one other number a b (inl (inl first)) (inl (inr second)) = first.1 ∙ sym second.0 ∙ first.0 ∙ sym second.1
target_one one other number a b (inl (inr first)) (inl (inl second)) = first.1 ∙ sym second.0 ∙ first.0 ∙ sym second.1
target_one one other number a b (inl (inr first)) (inl (inr second)) = first.1 ∙ sym second.1
target_one one other number a b (inl (inl first)) (inr second) = absurd (second.0 first.0)
target_one one other number a b (inl (inr first)) (inr second) = absurd (second.1 first.0)
target_one one other number a b (inr first) (inl (inl second)) = absurd (first.0 second.0)
target_one one other number a b (inr first) (inl (inr second)) = absurd (first.1 second.0)
target_one one other number a b (inr first) (inr second) = first.2 ∙ sym second.2

module _ (one other : ℕ) (numbers : List ℕ) (moves : List (ℕ × ℕ)) (next : List ℕ) (swaps : AreSwaps one other numbers moves) (written : AreWritten moves numbers next) where
  target_of : (node : ℕ) → node < length numbers → IsTarget one other (slice_index numbers node) (slice_index next node)
  unfolding IsTarget
  target_of node live = elim (written node live) [
    | inl at ↦ inl (All-contains (λ (m : ℕ × ℕ). (slice_index numbers m.0 ≡ one) × (m.1 ≡ other) ⊎ (slice_index numbers m.0 ≡ other) × (m.1 ≡ one)) moves (node, slice_index next node) swaps.swapped at)
    | inr kept ↦ inr (
      λ here. (let move = swaps.every node live (inl here) in kept.1 move.0 move.1),
      λ there. (let move = swaps.every node live (inr there) in kept.1 move.0 move.1),
      kept.0,
    )
  ]

  -- swapped blocks have other names
  pub AreRenamed-swapped : AreRenamed numbers next
  AreRenamed-swapped x y x_live y_live same =
      target_one one other (slice_index numbers x) (slice_index next x) (slice_index next y) (target_of x x_live)
      (subst (λ (n : ℕ). IsTarget one other n (slice_index next y)) (sym same) (target_of y y_live))

-- moved nodes are touched
pub moved_within : (touched numbers : List ℕ) (marks : List (Option ℕ)) (moves : List (ℕ × ℕ)) (count : ℕ) → AreMoves touched numbers marks moves
    → All (λ node. node < count) touched → All (λ move. move.0 < count) moves
moved_within touched numbers marks moves count are within =
    All-weaker (λ move. Contains touched move.0) (λ move. move.0 < count) (λ move at. All-contains (λ node. node < count) touched move.0 within at) moves are.1.only

pub AreChanged-moved : (touched numbers : List ℕ) (marks : List (Option ℕ)) (moves : List (ℕ × ℕ)) (next : List ℕ) → length next ≡ length numbers
    → AreMoves touched numbers marks moves → AreWritten moves numbers next → AreChanged numbers next touched
AreChanged-moved touched numbers marks moves next every are written node live = elim (written node (omega (arith, live, every))) [
  | inl at ↦ inr (All-contains (λ (move : ℕ × ℕ). Contains touched move.0) moves (node, slice_index next node) are.1.only at)
  | inr kept ↦ inl (sym kept.0)
]

-- facts of slices are facts of the lists that they show
pub low_shown : (shown nodes : List ℕ) (count other : ℕ) → shown ≡ nodes → count ≡ other → All (λ node. node < count) nodes
    → All (λ node. node < other) shown
low_shown shown nodes count other first second low =
    subst (λ (n : ℕ). All (λ node. node < n) shown) second (subst (λ (l : List ℕ). All (λ node. node < count) l) (sym first) low)

pub AreMoves-shown : (shown touched listed numbers : List ℕ) (seen marks : List (Option ℕ)) (moves : List (ℕ × ℕ)) → shown ≡ touched
    → listed ≡ numbers → seen ≡ marks → AreMoves shown listed seen moves → AreMoves touched numbers marks moves
AreMoves-shown shown touched listed numbers seen marks moves first second third are =
    subst (λ (m : List (Option ℕ)). AreMoves touched numbers m moves) third
    (subst (λ (n : List ℕ). AreMoves touched n seen moves) second (subst (λ (t : List ℕ). AreMoves t listed seen moves) first are))
