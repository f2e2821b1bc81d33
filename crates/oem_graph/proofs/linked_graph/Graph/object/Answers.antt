use Rattle.std.proofs.Common.{List, map, refl, ap, ◌∙◌}
use Rattle.std.proofs.lemmas.Option.{slice_get_read}
use Rattle.std.specs.List.{slice_get}
use Rattle.oem_graph.specs.Types.{Oid, Value, ObjectRecord}
use Rattle.oem_graph.specs.Graphs.{RoomyGraph}
use Rattle.edge_lists.specs.Objects.{object_of}
use Rattle.oem_graph.proofs.ReadLaws.{object-at}
use Rattle.oem_graph.proofs.linked_graph.Graph.object.Goals as goal

pub returns : goal.returns
returns c =
    object-at c.as_slice.result.now c.args.i c.in_ok-object.object.now
    (slice_get_read c.as_slice.result.now _ c.args.i c.in_ok-object.object.now refl c.in_ok-object.ensures.lookup.3.0 c.in_ok-object.ensures.lookup.1)
    ∙ ap (λ (l : List ObjectRecord). slice_get (map (λ (o : Oid × Value). o.0) (map object_of l)) c.args.i) c.as_slice.ensures.value
    ∙ ap (λ (v : RoomyGraph). slice_get (map (λ (o : Oid × Value). o.0) v.graph.objects) c.args.i) c.self.view_is
