use Rattle.std.proofs.Common.{List, ◌++◌, length, ap, ◌∙◌, subst, arith, length-append}
use Rattle.lore_base.specs.Walks.{out_of}
use Rattle.lore_base.specs.Databases.{AreAscendingEdges}
use Rattle.edge_layers.specs.Types.{Edge}
use Rattle.edge_layers.specs.Overlays.{OverlayEdges}
use Rattle.edge_layers.proofs.TurnLaws.{leaving_is, leaving_ascends}
use Rattle.edge_layers.proofs.edge_overlay.OverlayAdjacent.out_edges.Goals as goal

pub returns-clause-edges : goal.returns-clause-edges
returns-clause-edges g c =
    let layers = c.self.inside in
    let more = c.in_ok-push_leaving.ensures.ok in
    let run = leaving_is layers.records.now layers.lost layers.fresh c.args.oid more.0 (rw (c.as_slice-lost.ensures, c.as_slice-fresh.ensures) at more.2) in
    more.1 ∙ ap (λ (l : List Edge). c.args.buf.now ++ l) (run ∙ ap (λ (v : OverlayEdges). out_of c.args.oid v.edges) c.self.view_is)

pub returns-clause-ascending : goal.returns-clause-ascending
returns-clause-ascending g c =
    let layers = c.self.inside in
    subst (λ (v : OverlayEdges). AreAscendingEdges (out_of c.args.oid v.edges)) c.self.view_is
    (leaving_ascends layers.records.now layers.lost layers.fresh c.args.oid)

pub returns-clause-steps : goal.returns-clause-steps
returns-clause-steps g c =
    let layers = c.self.inside in
    let more = c.in_ok-push_leaving.ensures.ok in
    let run = leaving_is layers.records.now layers.lost layers.fresh c.args.oid more.0 (rw (c.as_slice-lost.ensures, c.as_slice-fresh.ensures) at more.2)
    ∙ ap (λ (v : OverlayEdges). out_of c.args.oid v.edges) c.self.view_is in
    omega (arith, c.tick.ensures, c.len-before.ensures, ap length c.as_slice.ensures, ap length more.1, length-append c.args.buf.now more.0, ap length run)
