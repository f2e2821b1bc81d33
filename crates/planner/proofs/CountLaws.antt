-- What is counted: the objects that a comparison asks for are a finite list, and the path to its range has few leaves.
use Rattle.std.proofs.Common.{◌≡◌, ℕ, suc, ◌+◌, ◌<◌, ◌≤◌, inl, inr, List, [], ◌∷◌, length, map, take, refl, sym, ap, ◌∙◌, arith, add-one}
use Rattle.std.specs.List.{Contains, sum_by}
use Rattle.std.proofs.lemmas.Bool.{cases_lt}
use Rattle.std.proofs.lemmas.List.{take-map}
use Rattle.std.proofs.lemmas.List.Sums.{sum_by-cons, sum_by-take-le}
use Rattle.lore_base.specs.declared.operators.Op.{Op}
use Rattle.lore_base.specs.declared.values.Value.{Value}
use Rattle.lore_base.specs.declared.limits.TheConstants.{LEAVES}
use Rattle.lore_base.specs.Comparisons.{Compares}
use Rattle.lore_base.specs.Paths.{PathTree, seq, trees_of, leaves, leaves_of}
use Rattle.lore_base.specs.TargetSets.{ListsInOrder}
use Rattle.lore_base.proofs.MemberLaws.{Contains-same}
use Rattle.index_traits.specs.Entries.{entry_of, IsFound}
use Rattle.index_traits.specs.Counts.{IsCount}
use Rattle.lorel_bound.specs.declared.bound.Bound.{Bound}
use Rattle.lorel_bound.specs.declared.bound.Range.{Range}
use Rattle.lorel_bound.specs.Bound.{RangeTree, range_tree, BoundTree, bound_tree}
use Rattle.lorel_bound.specs.Runnable.{IsRunnable}
use Rattle.lorel_bound.specs.Plans.{Probe, path_to}
use Rattle.lore_base.proofs.ToldLaws.{told_both}
use Rattle.list_laws.proofs.AscentLaws.{IsOrder, some_ordered}
use Rattle.index_traits.proofs.ObjectLaws.{told_label}
use Rattle.lorel_bound.proofs.ListedLaws.{IsListed, listed_members, listed_one, listed_same, listed_over, listed_where}
use Rattle.lorel_bound.proofs.ComparedLaws.{told_compares}
use Rattle.planner.specs.Types.{Oid, Label, ValueEntry}

-- ---- the objects that a comparison asks for
-- the entry is one of these, and its value compares so
abbrev IsAsked : List ValueEntry → Label → Op → Value → ValueEntry → Type 0
IsAsked entries label op value entry = Contains entries entry × ((entry.label ≡ label) × Compares entry.value op value)

pub listed_found : (entries : List ValueEntry) (label : Label) (op : Op) (value : Value) → IsListed (IsFound entries label op value)
listed_found entries label op value =
    listed_same (λ oid. (entry : ValueEntry) × IsAsked entries label op value entry × (entry.object ≡ oid)) (IsFound entries label op value)
    (λ oid. (
      λ h. (
        h.0.value,
        Contains-same entries h.0 (entry_of label h.0.value oid) (λ i. record { label = h.1.1.0 i; value = h.0.value; object = h.2 i }) h.1.0,
        h.1.1.1,
      ),
      λ h. (entry_of label h.0 oid, (h.1, (refl, h.2)), refl),
    ))
    (listed_over (IsAsked entries label op value) (λ entry oid. entry.object ≡ oid)
    (listed_where (Contains entries) (λ entry. (entry.label ≡ label) × Compares entry.value op value) (listed_members entries)
    (λ entry. told_both (told_label entry.label label) (told_compares entry.value op value)))
    (λ entry. listed_one entry.object))

pub oids_ordered : IsOrder (λ (a b : Oid). a.0 < b.0)
oids_ordered = record {
  apart = λ a h. omega (arith, h);
  trans = λ a b c h k. omega (arith, h, k);
  either = λ a b. elim (cases_lt a.0 b.0) [
    | inl before ↦ inl before
    | inr not_before ↦ elim (cases_lt b.0 a.0) [
      | inl after ↦ inr (inr after)
      | inr not_after ↦ (let same : a.0 ≡ b.0 = omega (arith, not_before, not_after) in inr (inl (λ i. record { 0 = same i })))
    ]
  ];
}

some_found : (entries : List ValueEntry) (label : Label) (op : Op) (value : Value)
    → (oids : List Oid) × ListsInOrder (IsFound entries label op value) oids
some_found entries label op value =
    let listed = listed_found entries label op value in
    let set = some_ordered (λ (a b : Oid). a.0 < b.0) oids_ordered listed.0 in (
      set.0,
      record {
        ascending = set.1.ascend;
        exact = λ oid. (λ h. (listed.1 oid).0 (set.1.only oid h), λ h. set.1.kept oid ((listed.1 oid).1 h));
      },
    )

-- so what is the length of each such list is their number
pub found_counted : (entries : List ValueEntry) (label : Label) (op : Op) (value : Value) (count : ℕ)
    → ((oids : List Oid) → ListsInOrder (IsFound entries label op value) oids → count ≡ length oids) → IsCount (IsFound entries label op value) count
found_counted entries label op value count told =
    let some = some_found entries label op value in (some.0, some.1, told some.0 some.1)

-- ---- the leaves of the path along ranges
joined_leaves : (ranges : List RangeTree) → leaves_of (trees_of (map (λ range. range.path) ranges)) ≡ sum_by (λ range. leaves range.path) ranges
joined_leaves [] = refl
joined_leaves (range ∷ ranges) =
    let later = joined_leaves ranges in
    let sum = sum_by-cons (λ (r : RangeTree). leaves r.path) range ranges in
    omega arith

pub few_joined_leaves : (bound : BoundTree) (probe : Probe) → IsRunnable bound → leaves (path_to bound probe) ≤ LEAVES
few_joined_leaves bound probe runnable =
    let few = runnable.few_leaves in
    let front = sum_by-take-le (λ (r : RangeTree). leaves r.path) bound.ranges (suc probe.slot) in
    let joined = joined_leaves (take (suc probe.slot) bound.ranges) in
    omega arith

-- the path along the ranges up to that of a comparison
pub joined_to : (bound : Bound) (probe : Probe) (ranges front : List Range) (path : PathTree)
    → ranges ≡ bound.ranges → front ≡ take (probe.slot + 1) ranges
    → path ≡ seq (trees_of (map (λ range. range.path) (map range_tree front))) → path ≡ path_to (bound_tree bound) probe
joined_to bound probe ranges front path all is joined =
    let up_to : front ≡ take (suc probe.slot) bound.ranges = is ∙ (λ i. take (add-one probe.slot i) (all i)) in
    let trees = ap (map range_tree) up_to ∙ sym (take-map range_tree (suc probe.slot) bound.ranges) in
    joined ∙ ap (λ (taken : List RangeTree). seq (trees_of (map (λ range. range.path) taken))) trees
