use Rattle.std.proofs.Common.{subst}
use Rattle.lore_base.specs.Walks.{ListsEntering}
use Rattle.edge_layers.specs.Overlays.{OverlayEdges}
use Rattle.edge_layers.proofs.TurnLaws.{entering_is}
use Rattle.edge_layers.proofs.edge_overlay.OverlayLinks.parents.Goals as goal

pub entering_run-requires : goal.entering_run-requires
entering_run-requires g c = rw c.as_slice.ensures c.self.invariant.lost_chained

pub entering_run-requires-2 : goal.entering_run-requires-2
entering_run-requires-2 g c = rw c.as_slice-2.ensures c.self.invariant.fresh_chained

pub push_entering-requires-clause-lost : goal.push_entering-requires-clause-lost
push_entering-requires-clause-lost g c = rw c.as_slice-lost.ensures c.in_ok-lost.ensures.ascend

pub push_entering-requires-clause-fresh : goal.push_entering-requires-clause-fresh
push_entering-requires-clause-fresh g c = rw c.as_slice-fresh.ensures c.in_ok-fresh.ensures.ascend

pub returns-clause-edges : goal.returns-clause-edges
returns-clause-edges g c =
    let layers = c.self.inside in
    let more = c.in_ok-push_entering.ensures.ok in
    let lists = entering_is layers.records.now layers.lost layers.fresh c.in_ok-lost.lost c.in_ok-fresh.fresh c.args.oid c.args.label more.0
    (rw c.as_slice.ensures at c.in_ok-lost.ensures) (rw c.as_slice-2.ensures at c.in_ok-fresh.ensures)
    (rw (c.as_slice-lost.ensures, c.as_slice-fresh.ensures) at more.2) in
    (more.0, more.1, subst (λ (v : OverlayEdges). ListsEntering v.edges c.args.oid c.args.label more.0) c.self.view_is lists)
