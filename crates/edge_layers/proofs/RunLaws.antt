-- The run of edges that leave an object, among ascending edges.
use Rattle.std.proofs.Common.{◌≡◌, ℕ, ◌<◌, ◌≤◌, Bool, true, false, nat_eq, nat_cmp, Less, ltb, leb, List, [], ◌++◌, length, get_or, take, drop, All, sym, ap, ◌∙◌, inl, inr, arith, length-take}
use Rattle.std.specs.declared.cmp.Ordering.{Ordering}
use Rattle.std.specs.Ordering.{ordering_then}
use Rattle.std.specs.List.{filter, AllWithin, HoldsAt}
use Rattle.std.specs.List.Sorted.{IsNonDecreasingBy, IsPartitionPoint}
use Rattle.std.proofs.lemmas.Bool.{cases_lt}
use Rattle.std.proofs.lemmas.Bool.Decides.{nat_tests}
use Rattle.std.proofs.lemmas.List.{append-nil, get_or-take, take-append-drop}
use Rattle.std.proofs.lemmas.List.Elements.{filter-append}
use Rattle.list_laws.proofs.PartLaws.{filter_all, filter_none, All-take_within, All-drop_within}
use Rattle.edge_layers.specs.Types.{Oid, Edge}
use Rattle.lore_base.specs.Walks.{out_of}
use Rattle.lore_base.specs.Databases.{AreAscendingEdges}

first_rises : (p q : ℕ) (o : Ordering) → ordering_then (nat_cmp p q) o ≡ Less → p ≤ q
first_rises p q o h = grind (arith, nat_tests)

-- the parents of ascending edges do not fall
pub parents_rise : (edges : List Edge) → AreAscendingEdges edges → IsNonDecreasingBy (λ e. e.parent.0) edges
parents_rise edges ascend i j d le lt =
    elim (cases_lt i j) [
      | inl before ↦ first_rises _ _ _ (ascend i j d before lt)
      | inr ge ↦ let same : i ≡ j = omega arith in omega (arith, ap (λ k. (get_or edges k d).parent.0) same)
    ]

eq_of_bounds : (a n : ℕ) → ltb a n ≡ false → leb a n ≡ true → nat_eq a n ≡ true
eq_of_bounds a n low high = grind (arith, nat_tests)

ne_of_lower : (a n : ℕ) → ltb a n ≡ true → nat_eq a n ≡ false
ne_of_lower a n h = grind (arith, nat_tests)

ne_of_higher : (a n : ℕ) → leb a n ≡ false → nat_eq a n ≡ false
ne_of_higher a n h = grind (arith, nat_tests)

le_of_same : (a n : ℕ) → a ≡ n → leb a n ≡ true
le_of_same a n h = grind (arith, nat_tests)

above_of : (a b n : ℕ) → ltb a n ≡ false → (a ≡ n → ⊥) → a ≤ b → leb b n ≡ false
above_of a b n low other le = grind (arith, nat_tests)

-- where no parent is below the object, its run ends at the first edge with another parent
pub run_ends : (edges : List Edge) (oid : Oid) (len : ℕ) → IsNonDecreasingBy (λ e. e.parent.0) edges → All (λ e. ltb e.parent.0 oid.0 ≡ false) edges
    → AllWithin (λ e. e.parent.0 ≡ oid.0) edges 0 len → (len < length edges → HoldsAt (λ e. e.parent.0 ≡ oid.0 → ⊥) edges len)
    → IsPartitionPoint (λ e. leb e.parent.0 oid.0 ≡ true) (λ e. leb e.parent.0 oid.0 ≡ false) edges len
run_ends edges oid len rise none_lower run end = (
  λ k d from below. le_of_same (get_or edges k d).parent.0 oid.0 (run k d from below),
  λ k d from below.
      let inside : len < length edges = omega arith in
      above_of (get_or edges len d).parent.0 (get_or edges k d).parent.0 oid.0 (none_lower len d inside) (end inside d) (rise len k d from below),
)

-- the edges from the first whose parent isn't below the object, up to the first of these whose parent is above it
pub run_is : (edges : List Edge) (oid : Oid) (start len : ℕ)
    → IsPartitionPoint (λ e. ltb e.parent.0 oid.0 ≡ true) (λ e. ltb e.parent.0 oid.0 ≡ false) edges start
    → IsPartitionPoint (λ e. leb e.parent.0 oid.0 ≡ true) (λ e. leb e.parent.0 oid.0 ≡ false) (drop start edges) len
    → take len (drop start edges) ≡ out_of oid edges
run_is edges oid start len low high =
    let rest = drop start edges in
    let p : Edge → Bool = λ e. nat_eq e.parent.0 oid.0 in
    let lower : filter p (take start edges) ≡ [] =
    filter_none p (take start edges) (λ k d lt. ne_of_lower _ _ (All-take_within (λ e. ltb e.parent.0 oid.0 ≡ true) edges start low.0 k d lt)) in
    let higher : filter p (drop len rest) ≡ [] =
    filter_none p (drop len rest) (λ k d lt. ne_of_higher _ _ (All-drop_within (λ e. leb e.parent.0 oid.0 ≡ false) rest len high.1 k d lt)) in
    let not_lower : All (λ e. ltb e.parent.0 oid.0 ≡ false) rest = All-drop_within (λ e. ltb e.parent.0 oid.0 ≡ false) edges start low.1 in
    let run : filter p (take len rest) ≡ take len rest =
    filter_all p (take len rest) (λ k d lt.
    let below : k < len = omega (arith, length-take len rest) in
    eq_of_bounds _ _ (rw (get_or-take len rest k d below) (not_lower k d (omega (arith, length-take len rest)))) (All-take_within (λ e. leb e.parent.0 oid.0 ≡ true) rest len high.0 k d lt)) in
    let parts : filter p edges ≡ filter p (take start edges) ++ filter p rest = ap (filter p) (sym (take-append-drop start edges)) ∙ filter-append p (take start edges) rest in
    let parts_rest : filter p rest ≡ filter p (take len rest) ++ filter p (drop len rest) = ap (filter p) (sym (take-append-drop len rest)) ∙ filter-append p (take len rest) (drop len rest) in
    sym (parts ∙ ap (λ l. l ++ filter p rest) lower ∙ parts_rest ∙ ap (λ l. filter p (take len rest) ++ l) higher ∙ append-nil _ ∙ run)
