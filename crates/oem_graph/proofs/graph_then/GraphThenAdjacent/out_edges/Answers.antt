use Rattle.std.proofs.Common.{List, ◌++◌, length, sym, ap, ◌∙◌, subst, arith, length-append}
use Rattle.index_traits.proofs.OutLaws.{ascend-out_of}
use Rattle.lore_base.specs.Walks.{out_of}
use Rattle.lore_base.specs.Databases.{AreAscendingEdges}
use Rattle.edge_lists.specs.Views.{edges_of}
use Rattle.edge_lists.proofs.ViewLaws.{edges_ascend}
use Rattle.oem_graph.specs.Types.{Edge}
use Rattle.oem_graph.specs.Plans.{GraphLists}
use Rattle.graph_changes.proofs.PutLaws.{put-layered}
use Rattle.edge_layers.proofs.TurnLaws.{leaving_is}
use Rattle.oem_graph.proofs.graph_then.GraphThenAdjacent.out_edges.Goals as goal

pub returns-clause-edges : goal.returns-clause-edges
returns-clause-edges g c =
    let then = c.self.inside in
    let more = c.in_ok-push_leaving.ensures.ok in
    let run = leaving_is then.records.now then.gone.now then.come.now c.args.oid more.0 more.2
    ∙ ap (out_of c.args.oid) (sym (put-layered (edges_of then.records.now) then.gone.now then.come.now (edges_ascend then.records.now) c.self.invariant.edges_ascend)) in
    more.1 ∙ ap (λ (l : List Edge). c.args.buf.now ++ l) (run ∙ ap (λ (v : GraphLists). out_of c.args.oid v.edges) c.self.view_is)

pub returns-clause-ascending : goal.returns-clause-ascending
returns-clause-ascending g c =
    ascend-out_of _ _ (subst (λ (v : GraphLists). AreAscendingEdges v.edges) c.self.view_is c.self.invariant.edges_ascend)

pub returns-clause-steps : goal.returns-clause-steps
returns-clause-steps g c =
    let then = c.self.inside in
    let more = c.in_ok-push_leaving.ensures.ok in
    let run = leaving_is then.records.now then.gone.now then.come.now c.args.oid more.0 more.2
    ∙ ap (out_of c.args.oid) (sym (put-layered (edges_of then.records.now) then.gone.now then.come.now (edges_ascend then.records.now) c.self.invariant.edges_ascend))
    ∙ ap (λ (v : GraphLists). out_of c.args.oid v.edges) c.self.view_is in
    omega (arith, c.tick.ensures, c.len-before.ensures, ap length c.as_slice.ensures, ap length more.1, length-append c.args.buf.now more.0, ap length run)
