use Rattle.std.proofs.Common.{◌++◌, length, ap, ◌∙◌, subst, arith, length-append}
use Rattle.index_traits.proofs.OutLaws.{ascend-out_of}
use Rattle.lore_base.specs.Walks.{out_of}
use Rattle.lore_base.specs.Databases.{AreAscendingEdges}
use Rattle.edge_lists.specs.Views.{edges_of}
use Rattle.edge_lists.proofs.ViewLaws.{edges_ascend}
use Rattle.oem_graph.specs.Graphs.{RoomyGraph}
use Rattle.oem_graph.proofs.ReadLaws.{list-is}
use Rattle.oem_graph.proofs.linked_graph.GraphAdjacent.out_edges.Goals as goal

pub returns-clause-edges : goal.returns-clause-edges
returns-clause-edges g c =
    list-is c.self.inside.records c.args.oid c.args.buf.now c.push_list.new.found c.in_ok-push_list.ensures.ok
    ∙ ap (λ (v : RoomyGraph). c.args.buf.now ++ out_of c.args.oid v.graph.edges) c.self.view_is

pub returns-clause-ascending : goal.returns-clause-ascending
returns-clause-ascending g c =
    ascend-out_of _ _ (subst (λ (v : RoomyGraph). AreAscendingEdges v.graph.edges) c.self.view_is (edges_ascend c.self.inside.records))

pub returns-clause-steps : goal.returns-clause-steps
returns-clause-steps g c =
    let whole = list-is c.self.inside.records c.args.oid c.args.buf.now c.push_list.new.found c.in_ok-push_list.ensures.ok in
    let seen = ap (λ (v : RoomyGraph). length (out_of c.args.oid v.graph.edges)) c.self.view_is in
    omega (
      arith,
      c.tick.ensures,
      c.len-before.ensures,
      ap length c.as_slice-2.ensures,
      ap length whole,
      length-append c.args.buf.now (out_of c.args.oid (edges_of c.self.inside.records)),
      seen,
    )
