-- The run of a label, an operator and a value among ascending entries: one piece of them.
use Rattle.std.proofs.Common.{◌≡◌, ◌≢◌, ◌↔◌, AllPairs, Contains, ℕ, ◌+◌, ◌<◌, ◌≤◌, Bool, true, false, nat_eq, nat_cmp}
use Rattle.std.proofs.Common.{Less, Equal, Greater, List, [], ◌++◌, length, get_or, take, drop, refl, sym}
use Rattle.std.proofs.Common.{ap, subst, ◌∙◌, inl, inr, arith, length-drop}
use Rattle.std.specs.declared.cmp.Ordering.{Ordering}
use Rattle.std.specs.Ordering.{ordering_then, ordering_index, is_eq}
use Rattle.std.specs.List.{filter, AllWithin}
use Rattle.std.specs.List.Sorted.{IsNonDecreasingBy, IsPartitionedBy, IsPartitionPoint}
use Rattle.std.proofs.lemmas.Bool.{cases_lt, true≢false}
use Rattle.std.proofs.lemmas.Bool.Decides.{nat_tests}
use Rattle.std.proofs.lemmas.List.{append-nil, get_or-drop, get_or-take, length-take, take-append-drop}
use Rattle.std.proofs.lemmas.List.Elements.{filter-append}
use Rattle.value_index.specs.Types.{Oid, Label, Value, Op, Eq, Ne, Lt, Le, Gt, Ge, Like, Entry, Kind}
use Rattle.value_orders.specs.Kinds.{value_cmp}
use Rattle.value_orders.specs.Held.{held}
use Rattle.value_orders.specs.inside.Naming.{naming}
use Rattle.value_orders.specs.EntryOrder.{entry_order, AscendByValue, value_total, order_total}
use Rattle.value_index.specs.inside.Runs.{side_of, side_in, run_in, objects_in}
use Rattle.lore_base.specs.Comparisons.{Admits}
use Rattle.lore_base.proofs.MemberLaws.{Contains-same, Contains-filter, unfiltered}
use Rattle.index_traits.specs.Entries.{IsProbed}
use Rattle.std.proofs.lemmas.Cmp.{tied_itself}
use Rattle.std.proofs.lemmas.List.{get_or-map, length-map}
use Rattle.std.proofs.lemmas.List.Elements.{Contains-get_or}
use Rattle.std.proofs.lemmas.List.Kept.{AllPairs-filter}
use Rattle.list_laws.proofs.OrderLaws.{Equal-from_test, comparison_rises}
use Rattle.list_laws.proofs.MemberLaws.{Contains-map, Contains-from_map}
use Rattle.list_laws.proofs.PartLaws.{filter_all, filter_none, All-take_within, All-drop_within}
use Rattle.value_orders.proofs.KeyLaws.{first_same, rest_equal, same_naming}

-- which side it is, by its number
in_test : (o : Ordering) → nat_eq (ordering_index o) 1 ≡ true → is_eq o ≡ true
in_test Less h = h
in_test Equal h = refl
in_test Greater h = h

before_test : (o : Ordering) → nat_eq (ordering_index o) 0 ≡ true → is_eq o ≡ false
before_test Less h = refl
before_test Equal h = sym h
before_test Greater h = refl

out_test : (o : Ordering) → nat_eq (ordering_index o) 1 ≡ false → is_eq o ≡ false
out_test Less h = refl
out_test Equal h = h
out_test Greater h = refl

module _ {X : Type 0} (side : X → Ordering) (xs : List X) where
  pub parted_before : IsNonDecreasingBy (λ x. ordering_index (side x)) xs
      → IsPartitionedBy (λ x. nat_eq (ordering_index (side x)) 0) xs
  parted_before rise i j d le lt at = let up = rise i j d le lt in grind (arith, nat_tests)

  -- what stands from the first item on that isn't before the run
  pub parted_in : IsNonDecreasingBy (λ x. ordering_index (side x)) xs
      → (start : ℕ) → AllWithin (λ x. nat_eq (ordering_index (side x)) 0 ≡ false) xs start (length xs)
      → IsPartitionedBy (λ x. nat_eq (ordering_index (side x)) 1) (drop start xs)
  parted_in rise start none_before i j d le lt at =
      let inside : start + j < length xs = omega (arith, length-drop start xs) in
      let up = rise (start + i) (start + j) d (omega arith) inside in
      let low = none_before (start + i) d (omega arith) (omega arith) in
      let high = rw (get_or-drop start xs j d) at at in
      rw (get_or-drop start xs i d) (grind (arith, nat_tests))

  -- the items from there up to the first of these that is not in the run
  pub run_is : (start len : ℕ)
      → IsPartitionPoint (λ x. nat_eq (ordering_index (side x)) 0 ≡ true) (λ x. nat_eq (ordering_index (side x)) 0 ≡ false) xs start
      → IsPartitionPoint (λ x. nat_eq (ordering_index (side x)) 1 ≡ true) (λ x. nat_eq (ordering_index (side x)) 1 ≡ false) (drop start xs) len
      → take len (drop start xs) ≡ filter (λ x. is_eq (side x)) xs
  run_is start len low high =
      let rest = drop start xs in
      let p : X → Bool = λ x. is_eq (side x) in
      let before : filter p (take start xs) ≡ [] =
      filter_none p (take start xs) (λ k d lt. before_test _ (All-take_within (λ x. nat_eq (ordering_index (side x)) 0 ≡ true) xs start low.0 k d lt)) in
      let behind : filter p (drop len rest) ≡ [] =
      filter_none p (drop len rest) (λ k d lt. out_test _ (All-drop_within (λ x. nat_eq (ordering_index (side x)) 1 ≡ false) rest len high.1 k d lt)) in
      let run : filter p (take len rest) ≡ take len rest =
      filter_all p (take len rest) (λ k d lt. in_test _ (All-take_within (λ x. nat_eq (ordering_index (side x)) 1 ≡ true) rest len high.0 k d lt)) in
      let parts : filter p xs ≡ filter p (take start xs) ++ filter p rest = ap (filter p) (sym (take-append-drop start xs)) ∙ filter-append p (take start xs) rest in
      let parts_rest : filter p rest ≡ filter p (take len rest) ++ filter p (drop len rest) = ap (filter p) (sym (take-append-drop len rest)) ∙ filter-append p (take len rest) (drop len rest) in
      sym (parts ∙ ap (λ l. l ++ filter p rest) before ∙ parts_rest ∙ ap (λ l. filter p (take len rest) ++ l) behind ∙ append-nil _ ∙ run)

-- the first item that fails a test is found among so many at the front, where the one behind these fails it
module _ {X : Type 0} (p : X → Bool) (xs : List X) (parted : IsPartitionedBy p xs) (bound : ℕ) (within : bound ≤ length xs)
    (end : bound < length xs → (d : X) → p (get_or xs bound d) ≡ false) where
  pub front-parted : IsPartitionedBy p (take bound xs)
  front-parted i j d le lt at =
      let inside : j < bound = omega (arith, lt, length-take bound xs) in
      let there = subst (λ (x : X). p x ≡ true) (get_or-take bound xs j d inside) at in
      subst (λ (x : X). p x ≡ true) (sym (get_or-take bound xs i d (omega (arith, le, inside)))) (parted i j d le (omega (arith, inside, within)) there)

  pub reached : (len : ℕ) → len ≤ bound → IsPartitionPoint (λ x. p x ≡ true) (λ x. p x ≡ false) (take bound xs) len
      → IsPartitionPoint (λ x. p x ≡ true) (λ x. p x ≡ false) xs len
  reached len few point = (
    λ k d low lt. subst (λ (x : X). p x ≡ true) (get_or-take bound xs k d (omega (arith, lt, few))) (point.0 k d low lt),
    λ k d low lt. elim (cases_lt k bound) [
      | inl front ↦ subst (λ (x : X). p x ≡ false) (get_or-take bound xs k d front) (point.1 k d low (omega (arith, front, within, length-take bound xs)))
      | inr behind ↦ not_passed (p (get_or xs k d)) (λ yes. true≢false (sym (parted bound k d (omega (arith, behind)) lt yes) ∙ end (omega (arith, behind, lt)) d))
    ],
  )
    where
      not_passed : (b : Bool) → (b ≡ true → ⊥) → b ≡ false
      not_passed true never = absurd (never refl)
      not_passed false never = refl

not_equal : (o : Ordering) → o ≢ Equal → nat_eq (ordering_index o) 1 ≡ false
not_equal Less h = refl
not_equal Equal h = absurd (h refl)
not_equal Greater h = refl

pub end_fails : {X : Type 0} (side : X → Ordering) (x : X) → side x ≢ Equal → nat_eq (ordering_index (side x)) 1 ≡ false
end_fails side x h = not_equal (side x) h

-- sides rise with the order that the operator asks for
side_of-rises : (op : Op) (o p : Ordering) → ordering_index o ≤ ordering_index p → ordering_index (side_of op o) ≤ ordering_index (side_of op p)
side_of-rises op o p h = grind arith

side_of-kept : (op : Op) (o p : Ordering) → o ≡ p → ordering_index (side_of op o) ≤ ordering_index (side_of op p)
side_of-kept op o p same = rw same (omega arith)

-- labels that do not fall come first
labels_rise : (p q n : ℕ) (o first second : Ordering) → ordering_then (nat_cmp p q) o ≡ Less
    → (o ≡ Less → ordering_index first ≤ ordering_index second)
    → ordering_index (ordering_then (nat_cmp p n) first) ≤ ordering_index (ordering_then (nat_cmp q n) second)
labels_rise p q n o first second less later = grind (arith, nat_tests)

module _ (values : List (Oid × Value)) (kind : Kind) where
  module _ (label : Label) (op : Op) (value : Value) where
    values_rise : (a b : Value) (o : Ordering) → ordering_then (value_cmp kind a b) o ≡ Less
        → ordering_index (side_of op (value_cmp kind a value)) ≤ ordering_index (side_of op (value_cmp kind b value))
    values_rise a b o h =
        elim (value_cmp kind a b) as (λ p. value_cmp kind a b ≡ p → ordering_then p o ≡ Less
        → ordering_index (side_of op (value_cmp kind a value)) ≤ ordering_index (side_of op (value_cmp kind b value))) [
          | Less ↦ λ is _. side_of-rises op (value_cmp kind a value) (value_cmp kind b value) (comparison_rises (value_cmp kind) (value_total kind) a b value is)
          | Equal ↦ λ is _. side_of-kept op (value_cmp kind a value) (value_cmp kind b value) ((value_total kind).congr a b value is)
          | Greater ↦ λ _ not_less. absurd (omega (arith, ap ordering_index not_less))
        ] refl h

    side_rises : (a b : Entry) → entry_order values kind a b ≡ Less
        → ordering_index (side_in values kind label op value a) ≤ ordering_index (side_in values kind label op value b)
    side_rises a b less =
        let first = held values a.object in
        let second = held values b.object in
        labels_rise a.label.0 b.label.0 label.0 (ordering_then (value_cmp kind first second) (nat_cmp a.object.0 b.object.0))
        (side_of op (value_cmp kind first value)) (side_of op (value_cmp kind second value)) less (values_rise first second (nat_cmp a.object.0 b.object.0))

    pub sides_rise : (entries : List Entry) → AscendByValue values kind entries
        → IsNonDecreasingBy (λ entry. ordering_index (side_in values kind label op value entry)) entries
    sides_rise entries ascend i j d le lt = elim (cases_lt i j) [
      | inl before ↦ side_rises (get_or entries i d) (get_or entries j d) (ascend i j d before lt)
      | inr ge ↦ let same : i ≡ j = omega arith in omega (arith, ap (λ k. ordering_index (side_in values kind label op value (get_or entries k d))) same)
    ]

-- Which entries stand in a run.

admits_in : (op : Op) → IsProbed op → (order : Ordering) → side_of op order ≡ Equal → Admits op order
admits_in Eq probed order h = h
admits_in Ne probed order h = absurd (probed.no_other refl)
admits_in Lt probed Less h = refl
admits_in Lt probed Equal h = absurd (cc)
admits_in Lt probed Greater h = absurd (cc)
admits_in Le probed Less h = λ other. absurd (cc)
admits_in Le probed Equal h = λ other. absurd (cc)
admits_in Le probed Greater h = absurd (cc)
admits_in Gt probed Less h = absurd (cc)
admits_in Gt probed Equal h = absurd (cc)
admits_in Gt probed Greater h = refl
admits_in Ge probed Less h = absurd (cc)
admits_in Ge probed Equal h = λ other. absurd (cc)
admits_in Ge probed Greater h = λ other. absurd (cc)
admits_in Like probed order h = absurd (probed.no_pattern refl)

in_admits : (op : Op) → (order : Ordering) → IsProbed op → Admits op order → side_of op order ≡ Equal
in_admits Eq order probed h = h
in_admits Ne order probed h = absurd (probed.no_other refl)
in_admits Lt Less probed h = refl
in_admits Lt Equal probed h = absurd (cc)
in_admits Lt Greater probed h = absurd (cc)
in_admits Le Less probed h = refl
in_admits Le Equal probed h = refl
in_admits Le Greater probed h = absurd (h refl)
in_admits Gt Less probed h = absurd (cc)
in_admits Gt Equal probed h = absurd (cc)
in_admits Gt Greater probed h = refl
in_admits Ge Less probed h = absurd (h refl)
in_admits Ge Equal probed h = refl
in_admits Ge Greater probed h = refl
in_admits Like order probed h = absurd h

both_are : (p q : ℕ) (o : Ordering) → p ≡ q → o ≡ Equal → is_eq (ordering_then (nat_cmp p q) o) ≡ true
both_are p q o same equal = grind (arith, nat_tests)

module _ (values : List (Oid × Value)) (kind : Kind) (label : Label) (op : Op) (value : Value) (entries : List Entry) where
  -- which entries stand in the run
  run-members : IsProbed op → (entry : Entry) → Contains (run_in values kind label op value entries) entry
      ↔ (Contains entries entry × (entry.label ≡ label) × Admits op (value_cmp kind (held values entry.object) value))
  run-members probed entry = (
    λ at. (
        let kept = unfiltered (λ e. is_eq (side_in values kind label op value e)) entries entry at in
        let own = value_cmp kind (held values entry.object) value in
        let side = Equal-from_test (side_in values kind label op value entry) kept.1 in
        let number : entry.label.0 ≡ label.0 = first_same _ _ (side_of op own) side in
        let order : side_of op own ≡ Equal = rest_equal (nat_cmp entry.label.0 label.0) _ side in
        (kept.0, ap (λ n. record { 0 = n }) number, admits_in op probed own order)),
    λ is. Contains-filter (λ e. is_eq (side_in values kind label op value e)) entries entry is.0
        (both_are entry.label.0 label.0 (side_of op (value_cmp kind (held values entry.object) value)) (ap (λ (l : Label). l.0) is.1)
        (in_admits op (value_cmp kind (held values entry.object) value) probed is.2)),
  )

  run-ascend : AscendByValue values kind entries → AscendByValue values kind (run_in values kind label op value entries)
  run-ascend ascend = AllPairs-filter (λ a b. entry_order values kind a b ≡ Less) (λ entry. is_eq (side_in values kind label op value entry)) entries ascend

  module _ (probed : IsProbed op) where
    -- the objects of a run
    pub run-objects : (oid : Oid) → Contains (objects_in (run_in values kind label op value entries)) oid
        ↔ (Contains entries (naming label oid) × Admits op (value_cmp kind (held values oid) value))
    run-objects oid = (
      λ at. (
          let entry = Contains-from_map (λ (e : Entry). e.object) (run_in values kind label op value entries) oid at in
          let there = (run-members probed entry.0).0 entry.1 in (
            Contains-same entries entry.0 (naming label oid) (same_naming entry.0 (naming label oid) there.1 entry.2) there.0,
            subst (λ (o : Oid). Admits op (value_cmp kind (held values o) value)) entry.2 there.2,
          )),
      λ found. Contains-map (λ (e : Entry). e.object) (run_in values kind label op value entries) (naming label oid)
          ((run-members probed (naming label oid)).1 (found.0, refl, found.1)),
    )

    module _ (ascend : AscendByValue values kind entries) where
      apart : (i j : ℕ) (e : Entry) → i < j → j < length (run_in values kind label op value entries)
          → (get_or (run_in values kind label op value entries) i e).object ≡ (get_or (run_in values kind label op value entries) j e).object → ⊥
      apart i j e lt len same =
          let run = run_in values kind label op value entries in
          let a = get_or run i e in
          let b = get_or run j e in
          let first = (run-members probed a).0 (Contains-get_or run i e (omega (arith, lt, len))) in
          let second = (run-members probed b).0 (Contains-get_or run j e len) in
          let entry : a ≡ b = same_naming a b (first.1 ∙ sym second.1) same in
          let less : entry_order values kind a b ≡ Less = run-ascend ascend i j e lt len in
          let equal : entry_order values kind a b ≡ Equal = subst (λ x. entry_order values kind a x ≡ Equal) entry (tied_itself (order_total values kind) a) in
          let none : Less ≡ Equal = sym less ∙ equal in
          absurd (cc)

      once_at : (i j : ℕ) (d : Oid) → i < j → j < length (objects_in (run_in values kind label op value entries)) → (e : Entry)
          → get_or (objects_in (run_in values kind label op value entries)) i d ≢ get_or (objects_in (run_in values kind label op value entries)) j d
      once_at i j d lt len e =
          let run = run_in values kind label op value entries in
          let inside : j < length run = omega (arith, len, length-map run (λ (e : Entry). e.object)) in
          rw (get_or-map (λ (e : Entry). e.object) run i e d (omega (arith, lt, inside)), get_or-map (λ (e : Entry). e.object) run j e d inside)
          (apart i j e lt inside)

      -- each of them once
      pub run-once : AllPairs (λ a b. a ≢ b) (objects_in (run_in values kind label op value entries))
      run-once i j d lt len =
          let run = run_in values kind label op value entries in
          let there = Contains-from_map (λ (e : Entry). e.object) run _ (Contains-get_or (objects_in run) j d len) in
          once_at i j d lt len there.0
