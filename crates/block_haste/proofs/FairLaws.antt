-- Marks by what entered nodes anew are fair.
use Rattle.std.proofs.Common.{◌≡◌, ◌≢◌, ◌↔◌, ℕ, ◌<◌, Bool, true, false, nat_eq, Less, Equal, Option, None, List, [], length, map, get_or, AllPairs, Contains, refl, sym, ap, ◌∙◌, subst, arith}
use Rattle.std.specs.Prelude.{slice_index, slice_index_or, IsTrue, nat_lt}
use Rattle.std.specs.List.{filter, count_by}
use Rattle.std.specs.Ordering.{nat_cmp, ordering_then, ordering_reverse}
use Rattle.std.specs.declared.cmp.Ordering.{Ordering}
use Rattle.std.specs.Cmp.{IsTotalOrder}
use Rattle.std.proofs.lemmas.Bool.{true≢false}
use Rattle.std.proofs.lemmas.Bool.Decides.{nat_tests}
use Rattle.std.proofs.lemmas.List.Elements.{filter_passes}
use Rattle.std.proofs.lemmas.List.Kept.{AllPairs-filter}
use Rattle.block_rounds.specs.Partitions.{Enters}
use Rattle.block_haste.specs.inside.Tallies.{Key, key_eq}
use Rattle.block_haste.specs.inside.Marking.{Change, stands, changes_of, mark_by, AreMarkedBy, AreEvents, AreEdgesOf, keys_of}
use Rattle.block_haste.specs.inside.Hastening.{IsFromBoth, AreEnteredAlikeFromBoth, AreFair}
use Rattle.block_rounds.proofs.SignatureLaws.{same_number}
use Rattle.list_laws.proofs.MemberLaws.{Contains-map, Contains-from_map}
use Rattle.block_haste.proofs.TallyLaws.{is_counted, has_key}
use Rattle.block_haste.proofs.MarkLaws.{change_order, one_mark, AllPairs-map}

-- tests that are true together are one
same_test : (a b : Bool) → (a ≡ true → b ≡ true) → (b ≡ true → a ≡ true) → a ≡ b
same_test true b forth back = sym (forth refl)
same_test false true forth back = back refl
same_test false false forth back = refl

-- events in order
abbrev pub event_order : (Change → Change → Ordering) → ℕ × Change → ℕ × Change → Type 0
event_order cmp a b = ordering_then (nat_cmp a.0 b.0) (cmp a.1 b.1) ≡ Less

-- the changes of one node are in order
pub changes_ascend : (cmp : Change → Change → Ordering) (node : ℕ) (events : List (ℕ × Change)) → AllPairs (event_order cmp) events
    → AllPairs (change_order cmp) (changes_of node events)
changes_ascend cmp node events ascending =
    let kept = AllPairs-filter (event_order cmp) (λ e. nat_eq e.0 node) events ascending in
    let own = filter_passes (λ (e : ℕ × Change). nat_eq e.0 node) events in
    AllPairs-map (change_order cmp) (λ (e : ℕ × Change). e.1) (filter (λ e. nat_eq e.0 node) events) (λ i j d lt len.
    let a = get_or (filter (λ e. nat_eq e.0 node) events) i d in
    let b = get_or (filter (λ e. nat_eq e.0 node) events) j d in
    let a_is : a.0 ≡ node = same_number a.0 node (own i d (omega (arith, lt, len))) in
    let b_is : b.0 ≡ node = same_number b.0 node (own j d len) in
    let equal : nat_cmp a.0 b.0 ≡ Equal = same_cmp a.0 b.0 (a_is ∙ sym b_is) in
    ap (λ o. ordering_then o (cmp a.1 b.1)) (sym equal) ∙ kept i j d lt len)
  where
    same_cmp : (m n : ℕ) → m ≡ n → nat_cmp m n ≡ Equal
    same_cmp m n same = grind (arith, nat_tests)

module _ (rows : List (List (ℕ × ℕ))) (edges : List (ℕ × ℕ × ℕ)) (numbers : List ℕ) (are : AreEdgesOf rows edges) where
  -- a key stands where an edge with the label enters the node from a parent with the number
  key_from : (node label number : ℕ) → Contains (keys_of edges numbers) (node, label, number)
      → (parent : ℕ) × Enters rows parent label node × (slice_index numbers parent ≡ number)
  key_from node label number at =
      let edge = Contains-from_map (λ (e : ℕ × ℕ × ℕ). (e.2, e.1, slice_index numbers e.0)) edges (node, label, number) at in
      let here : edge.0.2 ≡ node = ap (λ (k : Key). k.0) edge.2 in
      let by : edge.0.1 ≡ label = ap (λ (k : Key). k.1) edge.2 in
      let is : edge.0 ≡ (edge.0.0, label, node) = λ i. (edge.0.0, by i, here i) in
      (edge.0.0, (are edge.0.0 label node).0 (subst (λ (e : ℕ × ℕ × ℕ). Contains edges e) is edge.1), ap (λ (k : Key). k.2) edge.2)

  key_at : (node label parent : ℕ) → Enters rows parent label node → Contains (keys_of edges numbers) (node, label, slice_index numbers parent)
  key_at node label parent at =
      Contains-map (λ (e : ℕ × ℕ × ℕ). (e.2, e.1, slice_index numbers e.0)) edges (parent, label, node) ((are parent label node).1 at)

module _ (rows : List (List (ℕ × ℕ))) (edges : List (ℕ × ℕ × ℕ)) (tags numbers : List ℕ) (are : AreEdgesOf rows edges) where
  stands_alike : (x y label tag : ℕ) → AreEnteredAlikeFromBoth rows tags numbers x y → stands (keys_of edges numbers) (x, label, tag) ≡ true
      → stands (keys_of edges numbers) (y, label, tag) ≡ true
  stands_alike x y label tag alike told =
      let keys = keys_of edges numbers in
      let from = key_from rows edges numbers are x label tag ((has_key keys (x, label, tag) (count_by (key_eq (x, label, tag)) keys) refl).0 told) in
      let other = (alike label (slice_index tags from.0) tag).0 (from.0, from.1, refl, from.2) in
      let there : Contains keys (y, label, tag) =
      subst (λ (n : ℕ). Contains keys (y, label, n)) other.3 (key_at rows edges numbers are y label other.0 other.1) in
      (has_key keys (y, label, tag) (count_by (key_eq (y, label, tag)) keys) refl).1 there

  event_alike : (x y : ℕ) (events : List (ℕ × Change)) → AreEvents rows tags numbers events → AreEnteredAlikeFromBoth rows tags numbers x y
      → (change : Change) → Contains events (x, change) → Contains events (y, change)
  event_alike x y events exact alike change at =
      let source = exact.sound x change.0 change.1 change.2 at in
      let other = (alike change.0 change.1 change.2).0 (source.0, source.1, source.2, source.3) in
      let apart : slice_index tags other.0 ≢ slice_index numbers other.0 = λ same. source.4 (sym other.2 ∙ same ∙ other.3) in
      let there = exact.complete y change.0 other.0 other.1 apart in
      subst (λ (n : ℕ). Contains events (y, (change.0, change.1, n))) other.3
      (subst (λ (t : ℕ). Contains events (y, (change.0, t, slice_index numbers other.0))) other.2 there)

  -- nodes of one block that are entered alike have one mark
  pub AreFair-marked : (cmp : Change → Change → Ordering) (events : List (ℕ × Change)) (marks : List (Option ℕ)) → IsTotalOrder cmp
      → AllPairs (event_order cmp) events → AreEvents rows tags numbers events → length marks ≡ length rows
      → AreMarkedBy (stands (keys_of edges numbers)) events marks → AreFair rows tags numbers marks
  AreFair-marked cmp events marks total ascending exact every marked x y x_live y_live same alike =
      let back : AreEnteredAlikeFromBoth rows tags numbers y x = λ label tag number. ((alike label tag number).1, (alike label tag number).0) in
      marked x (omega (arith, every, x_live))
      ∙ one_mark cmp (stands (keys_of edges numbers)) x y events (λ a b first second.
      let greater : Less ≡ ordering_reverse Less = sym first ∙ total.antisymm a b ∙ ap ordering_reverse second in cc)
      (changes_ascend cmp x events ascending) (changes_ascend cmp y events ascending)
      (λ change. (event_alike x y events exact alike change, event_alike y x events exact back change))
      (λ label tag. same_test (stands (keys_of edges numbers) (x, label, tag)) (stands (keys_of edges numbers) (y, label, tag))
      (stands_alike x y label tag alike) (stands_alike y x label tag back))
      ∙ sym (marked y (omega (arith, every, y_live)))
