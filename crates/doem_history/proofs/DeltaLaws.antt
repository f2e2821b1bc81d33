-- Deltas lead on: from what differs between two moments to what goes and what comes of each kind of fact. Names, objects and
-- edges in their order, as each kind of fact has it.
use Rattle.std.proofs.Common.{◌≡◌, inl, inr, ℕ, ◌<◌, List, [], ◌∷◌, Less, get_or, Contains, ap, arith}
use Rattle.std.specs.List.{AllByRecursion, All}
use Rattle.std.specs.List.Sorted.{IsStrictlySortedBy}
use Rattle.std.specs.Map.{keys_of}
use Rattle.std.specs.Ordering.{nat_cmp}
use Rattle.std.specs.declared.cmp.Ordering.{Ordering}
use Rattle.std.proofs.lemmas.Bool.Decides.{nat_tests}
use Rattle.std.proofs.lemmas.List.Elements.{All-nil, All-cons}
use Rattle.std.proofs.lemmas.List.Kept.{AllPairs-cons}
use Rattle.lore_base.specs.Bytes.{bytes_cmp}
use Rattle.lore_base.specs.Names.{IsNameTable}
use Rattle.lore_base.specs.Walks.{edge_cmp}
use Rattle.lore_base.specs.Databases.{OemGraph, IsOrdered, AreAscendingObjects}
use Rattle.lore_base.specs.Deltas.{IsDelta, ListsOnlyIn}
use Rattle.lore_base.proofs.MemberLaws.{Contains-head, Contains-tail}
use Rattle.lore_base.proofs.ListLaws.{AllPairs-head, AllPairs-tail}
use Rattle.lore_base.proofs.ToldLaws.{IsTold, told_same, told_both, told_member, told_oid, told_bytes, told_edge, told_value}
use Rattle.list_laws.proofs.OrderLaws.{less_from_cmp}
use Rattle.list_laws.proofs.PairLaws.{AllPairs-nil}
use Rattle.doem_history.specs.Types.{Oid, Value, Delta}
use Rattle.doem_history.specs.Facts.{name_order, object_order}
use Rattle.doem_history.specs.Moments.{Moment, moment_of, LeadsTo}
use Rattle.doem_history.specs.inside.Kept.{Ascends}
use Rattle.doem_history.specs.inside.Leads.{Leads, LeadsOn}

-- Orders.

below_each : (name : List ℕ) (others : List (List ℕ × Oid)) → AllByRecursion (λ key. bytes_cmp name key ≡ Less) (keys_of others)
    → All (λ entry. bytes_cmp name entry.0 ≡ Less) others
below_each name [] below = All-nil (λ (entry : List ℕ × Oid). bytes_cmp name entry.0 ≡ Less)
below_each name (entry ∷ others) below = All-cons (λ (e : List ℕ × Oid). bytes_cmp name e.0 ≡ Less) entry others below.0 (below_each name others below.1)

pub names_ascend : (names : List (List ℕ × Oid)) → IsNameTable names → Ascends name_order names
unfolding IsStrictlySortedBy
names_ascend [] table = AllPairs-nil (λ a b. name_order a b ≡ Less)
names_ascend (entry ∷ others) table =
    AllPairs-cons (λ a b. name_order a b ≡ Less) entry others (below_each entry.0 others table.0) (names_ascend others table.1)

below_keys : (name : List ℕ) (others : List (List ℕ × Oid)) → ((entry : List ℕ × Oid) → Contains others entry → bytes_cmp name entry.0 ≡ Less)
    → AllByRecursion (λ key. bytes_cmp name key ≡ Less) (keys_of others)
below_keys name [] each = tt
below_keys name (entry ∷ others) each =
    (each entry (Contains-head entry others), below_keys name others (λ other at. each other (Contains-tail entry others other at)))

pub names_table : (names : List (List ℕ × Oid)) → Ascends name_order names → IsNameTable names
unfolding IsStrictlySortedBy
names_table [] ascend = tt
names_table (entry ∷ others) ascend = (
  below_keys entry.0 others (AllPairs-head (λ a b. name_order a b ≡ Less) entry others ascend),
  names_table others (AllPairs-tail (λ a b. name_order a b ≡ Less) entry others ascend),
)

less_to_cmp : (a b : ℕ) → a < b → nat_cmp a b ≡ Less
less_to_cmp a b less = grind (arith, nat_tests)

pub objects_ascend : (objects : List (Oid × Value)) → AreAscendingObjects objects → Ascends object_order objects
objects_ascend objects ascend i j d lt len = less_to_cmp (get_or objects i d).0.0 (get_or objects j d).0.0 (ascend i j d lt len)

pub objects_rise : (objects : List (Oid × Value)) → Ascends object_order objects → AreAscendingObjects objects
objects_rise objects ascend i j d lt len = less_from_cmp (get_or objects i d).0.0 (get_or objects j d).0.0 (ascend i j d lt len)

-- What can be told of facts.

pub told_name : (a b : List ℕ × Oid) → IsTold (a ≡ b)
told_name a b =
    told_same (λ (same : (a.0 ≡ b.0) × (a.1 ≡ b.1)). λ i. (same.0 i, same.1 i)) (λ same. (ap (λ (n : List ℕ × Oid). n.0) same, ap (λ (n : List ℕ × Oid). n.1) same))
    (told_both (told_bytes a.0 b.0) (told_oid a.1 b.1))

pub told_object : (a b : Oid × Value) → IsTold (a ≡ b)
told_object a b =
    told_same (λ (same : (a.0 ≡ b.0) × (a.1 ≡ b.1)). λ i. (same.0 i, same.1 i)) (λ same. (ap (λ (o : Oid × Value). o.0) same, ap (λ (o : Oid × Value). o.1) same))
    (told_both (told_oid a.0 b.0) (told_value a.1 b.1))

-- Deltas.

-- a difference by "stands here and not there" leads on, since it can be told whether a fact stood before
pub leads_of : {F : Type 0} (cmp : F → F → Ordering) → ((a b : F) → IsTold (a ≡ b)) → (before gone come after : List F)
    → ListsOnlyIn gone before after → ListsOnlyIn come after before → Ascends cmp after → Ascends cmp gone → Ascends cmp come → Leads cmp before gone come after
leads_of cmp told before gone come after gone_is come_is after_ascends gone_ascends come_ascends = record {
  gone_stood = λ fact at. ((gone_is fact).0 at).0;
  come_new = λ fact at. ((come_is fact).0 at).1;
  exact = λ fact. (
    (λ at. elim (told_member told before fact) [
      | inl stood ↦ inr (stood, (λ goes. ((gone_is fact).0 goes).1 at))
      | inr new ↦ inl ((come_is fact).1 (at, new))
    ]),
    (λ either. elim either [
      | inl comes ↦ ((come_is fact).0 comes).0
      | inr (stood, stays) ↦ elim (told_member told after fact) [
        | inl stands ↦ stands
        | inr gone_then ↦ absurd (stays ((gone_is fact).1 (stood, gone_then)))
      ]
    ]),
  );
  after_ascends = after_ascends;
  gone_ascends = gone_ascends;
  come_ascends = come_ascends;
}

pub leads_on : (before after : Moment) (delta : Delta) → LeadsTo before after delta → LeadsOn before after delta
leads_on before after delta leads = let d = leads.differ in record {
  names = leads_of name_order told_name before.names delta.names_gone delta.names_come after.names d.names_gone d.names_come
      (names_ascend after.names leads.ordered.names) (names_ascend delta.names_gone d.names_ascend.0) (names_ascend delta.names_come d.names_ascend.1);
  objects = leads_of object_order told_object before.objects delta.objects_gone delta.objects_come after.objects d.objects_gone d.objects_come
      (objects_ascend after.objects leads.ordered.objects) (objects_ascend delta.objects_gone d.objects_ascend.0) (objects_ascend delta.objects_come d.objects_ascend.1);
  edges = leads_of edge_cmp told_edge before.edges delta.edges_gone delta.edges_come after.edges d.edges_gone d.edges_come
      leads.ordered.edges d.edges_ascend.0 d.edges_ascend.1;
}

-- what leads from one graph to another one in order leads from its moment to that of the other
pub leads_by_graphs : (before after : OemGraph) (delta : Delta) → IsDelta before after delta → IsOrdered after
    → LeadsTo (moment_of before.names before.objects before.edges) (moment_of after.names after.objects after.edges) delta
leads_by_graphs before after delta d ordered = record {
  ordered = record { names = ordered.names_ascend; objects = ordered.objects_ascend; edges = ordered.edges_ascend };
  differ = record {
    names_gone = d.names_gone;
    names_come = d.names_come;
    objects_gone = d.objects_gone;
    objects_come = d.objects_come;
    edges_gone = d.edges_gone;
    edges_come = d.edges_come;
    names_ascend = d.names_ascend;
    objects_ascend = d.objects_ascend;
    edges_ascend = d.edges_ascend;
  };
}
