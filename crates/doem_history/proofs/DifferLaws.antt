-- What two moments differ in: one delta, and where both are in order there is one.
use Rattle.std.proofs.Common.{◌≡◌, List, Less, Contains}
use Rattle.std.specs.Cmp.{IsTotalOrder}
use Rattle.std.specs.declared.cmp.Ordering.{Ordering}
use Rattle.lore_base.specs.Walks.{edge_cmp}
use Rattle.lore_base.specs.Deltas.{ListsOnlyIn, IsDelta}
use Rattle.lore_base.proofs.ListLaws.{AllPairs-unique}
use Rattle.lore_base.proofs.ToldLaws.{IsTold, told_not, told_member, told_edge, passing, members_passing, AllPairs-passing}
use Rattle.doem_history.specs.Types.{Delta}
use Rattle.doem_history.specs.Facts.{name_order, object_order}
use Rattle.doem_history.specs.Laws.{HaveOneDelta, HaveSomeDelta}
use Rattle.doem_history.specs.inside.FactLaws.{name_total, object_total, edge_total}
use Rattle.doem_history.specs.inside.Kept.{Ascends}
use Rattle.doem_history.proofs.OrderLaws.{never-both}
use Rattle.doem_history.proofs.DeltaLaws.{names_ascend, names_table, objects_ascend, objects_rise, told_name, told_object}

-- ascending facts are one list where they are exactly those of the one side
one_side : {F : Type 0} (cmp : F → F → Ordering) → IsTotalOrder cmp → (items others list same : List F) → Ascends cmp list → Ascends cmp same
    → ListsOnlyIn list items others → ListsOnlyIn same items others → list ≡ same
one_side {F} cmp total items others list same rises too lists also =
    AllPairs-unique (λ (a b : F). cmp a b ≡ Less) (never-both cmp total) list same rises too
    (λ fact. (λ at. (also fact).1 ((lists fact).0 at), λ at. (lists fact).1 ((also fact).0 at)))

-- and there is such a list
some_side : {F : Type 0} (cmp : F → F → Ordering) → ((a b : F) → IsTold (a ≡ b)) → (items others : List F) → Ascends cmp items
    → (list : List F) × ListsOnlyIn list items others × Ascends cmp list
some_side {F} cmp told items others rise =
    let absent : (fact : F) → IsTold (Contains others fact → ⊥) = λ fact. told_not (told_member told others fact) in (
      passing (λ fact. Contains others fact → ⊥) absent items,
      members_passing (λ fact. Contains others fact → ⊥) absent items,
      AllPairs-passing (λ fact. Contains others fact → ⊥) absent (λ a b. cmp a b ≡ Less) items rise,
    )

pub one_delta : HaveOneDelta
one_delta before after delta other d e =
    let names = one_side name_order name_total in
    let objects = one_side object_order object_total in
    let edges = one_side edge_cmp edge_total in
    let names_gone = names before.names after.names delta.names_gone other.names_gone (names_ascend delta.names_gone d.names_ascend.0)
    (names_ascend other.names_gone e.names_ascend.0) d.names_gone e.names_gone in
    let names_come = names after.names before.names delta.names_come other.names_come (names_ascend delta.names_come d.names_ascend.1)
    (names_ascend other.names_come e.names_ascend.1) d.names_come e.names_come in
    let objects_gone = objects before.objects after.objects delta.objects_gone other.objects_gone (objects_ascend delta.objects_gone d.objects_ascend.0)
    (objects_ascend other.objects_gone e.objects_ascend.0) d.objects_gone e.objects_gone in
    let objects_come = objects after.objects before.objects delta.objects_come other.objects_come (objects_ascend delta.objects_come d.objects_ascend.1)
    (objects_ascend other.objects_come e.objects_ascend.1) d.objects_come e.objects_come in
    let edges_gone = edges before.edges after.edges delta.edges_gone other.edges_gone d.edges_ascend.0 e.edges_ascend.0 d.edges_gone e.edges_gone in
    let edges_come = edges after.edges before.edges delta.edges_come other.edges_come d.edges_ascend.1 e.edges_ascend.1 d.edges_come e.edges_come in
    λ i. record {
      names_gone = names_gone i;
      names_come = names_come i;
      objects_gone = objects_gone i;
      objects_come = objects_come i;
      edges_gone = edges_gone i;
      edges_come = edges_come i;
    }

pub some_delta : HaveSomeDelta
some_delta before after first last =
    let names_in = names_ascend before.names first.names in
    let names_out = names_ascend after.names last.names in
    let objects_in = objects_ascend before.objects first.objects in
    let objects_out = objects_ascend after.objects last.objects in
    let ng = some_side name_order told_name before.names after.names names_in in
    let nc = some_side name_order told_name after.names before.names names_out in
    let og = some_side object_order told_object before.objects after.objects objects_in in
    let oc = some_side object_order told_object after.objects before.objects objects_out in
    let eg = some_side edge_cmp told_edge before.edges after.edges first.edges in
    let ec = some_side edge_cmp told_edge after.edges before.edges last.edges in (
      record { names_gone = ng.0; names_come = nc.0; objects_gone = og.0; objects_come = oc.0; edges_gone = eg.0; edges_come = ec.0 },
      record {
        names_gone = ng.1;
        names_come = nc.1;
        objects_gone = og.1;
        objects_come = oc.1;
        edges_gone = eg.1;
        edges_come = ec.1;
        names_ascend = (names_table ng.0 ng.2, names_table nc.0 nc.2);
        objects_ascend = (objects_rise og.0 og.2, objects_rise oc.0 oc.2);
        edges_ascend = (eg.2, ec.2);
      },
    )
