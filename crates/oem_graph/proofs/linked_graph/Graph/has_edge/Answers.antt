use Rattle.std.proofs.Common.{◌≡◌, ◌↔◌, List, true, is_some, ap, ◌∙◌, subst}
use Rattle.lore_base.specs.ChangeSets.{HasChildren}
use Rattle.edge_lists.specs.Objects.{head_of}
use Rattle.oem_graph.specs.Types.{Out, ObjectRecord}
use Rattle.oem_graph.specs.Graphs.{RoomyGraph}
use Rattle.edge_layers.proofs.ViewLaws.{has-children}
use Rattle.oem_graph.proofs.linked_graph.Graph.has_edge.Goals as goal

pub returns : goal.returns
returns c =
    let told = c.has_list.ensures ∙ ap (λ (l : List ObjectRecord). is_some (head_of Out l c.args.oid)) c.as_slice.ensures.value in
    subst (λ (v : RoomyGraph). (c.has_list.result ≡ true) ↔ HasChildren v.graph.edges c.args.oid) c.self.view_is
    (has-children c.self.inside.objects.items c.self.inside.records c.self.invariant.lists.out c.args.oid c.has_list.result told)
