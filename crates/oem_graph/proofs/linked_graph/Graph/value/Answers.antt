use Rattle.std.proofs.Common.{List, map, Contains, IfSome, IfNone, sym, ap, subst, ◌∙◌}
use Rattle.lore_base.specs.Databases.{IsLive}
use Rattle.oem_graph.specs.Types.{Oid, Value}
use Rattle.oem_graph.specs.Graphs.{RoomyGraph}
use Rattle.edge_lists.specs.Objects.{object_of}
use Rattle.oem_graph.proofs.linked_graph.Graph.value.Goals as goal

pub returns-clause-found : goal.returns-clause-found
returns-clause-found c =
    let objects = ap (map object_of) c.as_slice.ensures.value ∙ ap (λ (v : RoomyGraph). v.graph.objects) c.self.view_is in
    subst (λ (l : List (Oid × Value)). IfSome c.value_of.result (λ value. Contains l (c.args.oid, value.now))) objects c.value_of.ensures.found

pub returns-clause-none : goal.returns-clause-none
returns-clause-none c =
    let objects = ap (map object_of) c.as_slice.ensures.value ∙ ap (λ (v : RoomyGraph). v.graph.objects) c.self.view_is in
    subst (λ (l : List (Oid × Value)). IfNone c.value_of.result (¬ IsLive l c.args.oid)) objects c.value_of.ensures.none

pub returns-clause-only : goal.returns-clause-only
returns-clause-only c value at =
    let objects = ap (map object_of) c.as_slice.ensures.value ∙ ap (λ (v : RoomyGraph). v.graph.objects) c.self.view_is in
    c.value_of.ensures.only value (subst (λ (l : List (Oid × Value)). Contains l (c.args.oid, value)) (sym objects) at)
