use Rattle.std.proofs.Common.{List, sym, subst, ◌∙◌}
use Rattle.edge_lists.specs.Views.{edges_of}
use Rattle.edge_lists.proofs.ViewLaws.{edges_ascend}
use Rattle.lore_base.specs.ChangeSets.{IsOverlay}
use Rattle.edge_layers.specs.Layers.{layered}
use Rattle.edge_layers.specs.Lists.{AreLists}
use Rattle.edge_layers.specs.Overlays.{OverlayEdges, overlaid}
use Rattle.edge_layers.proofs.FoundLaws.{found-lost, found-fresh}
use Rattle.edge_layers.proofs.OverlayLaws.{overlay-layered}
use Rattle.oem_graph.specs.Types.{ObjectRecord}
use Rattle.oem_graph.specs.Graphs.{RoomyGraph}
use Rattle.oem_graph.proofs.linked_graph.Graph.overlay.Goals as goal

pub new-requires-clause-lists : goal.new-requires-clause-lists
new-requires-clause-lists c = subst (λ (l : List ObjectRecord). AreLists l c.self.inside.records) (sym c.as_slice-objects.ensures.value) c.self.invariant.lists

pub new-requires-clause-lost : goal.new-requires-clause-lost
new-requires-clause-lost c = c.in_ok-removed.ensures.there_ascend

pub new-requires-clause-fresh : goal.new-requires-clause-fresh
new-requires-clause-fresh c = c.in_ok-added.ensures.absent_ascend

pub returns : goal.returns
returns c =
    let records = c.self.inside.records in
    let lost = c.in_ok-removed.removed.there in
    let fresh = c.in_ok-added.added.absent in
    let gone = found-lost records c.args.changes.now.removed lost c.in_ok-removed.removed.absent (rw c.as_slice.ensures at c.in_ok-removed.ensures) in
    let new = found-fresh records c.args.changes.now.added c.in_ok-added.added.there fresh (rw c.as_slice-2.ensures at c.in_ok-added.ensures) in
    let overlay = overlay-layered (edges_of records) c.args.changes.now lost fresh (edges_ascend records) gone new c.requires.fits.apart in
    let seen = subst (λ (v : RoomyGraph). IsOverlay v.graph.edges c.args.changes.now (layered (edges_of records) lost fresh) lost fresh) c.self.view_is overlay in
    subst (λ (o : OverlayEdges). IsOverlay c.args.self.now.graph.edges c.args.changes.now o.edges o.lost o.fresh) (sym c.in_ok-overlay.ensures) seen
