use Rattle.edge_layers.proofs.LayerLaws.{none_there}
use Rattle.graph_changes.proofs.GoneLaws.{gone-none, gone-joined}
use Rattle.graph_changes.proofs.EmptyLaws.{gone-leaving}
use Rattle.graph_changes.proofs.edges_then.edges_gone.Goals as goal

pub returns-then-is_empty : goal.returns-then-is_empty
returns-then-is_empty c =
    let none = none_there c.args.dead.now c.is_empty.result c.is_empty.ensures c.if-is_empty.true in
    gone-none c.args.records.now c.args.lost.edges c.args.dead.now none c.requires.lost

pub returns-then-is_empty-2 : goal.returns-then-is_empty-2
returns-then-is_empty-2 c =
    let none = c.is_empty-2.ensures.0 c.if-is_empty-2.true in
    gone-leaving c.args.records.now c.args.lost.edges c.in_ok-leaving.leaving.edges c.args.dead.now none c.in_ok-leaving.ensures

pub joined-requires-clause-first : goal.joined-requires-clause-first
joined-requires-clause-first c = rw c.as_slice.ensures c.requires.lost

pub joined-requires-clause-second : goal.joined-requires-clause-second
joined-requires-clause-second c = rw c.as_slice-2.ensures c.in_ok-leaving.ensures.ascend

pub returns : goal.returns
returns c = gone-joined c.args.records.now c.args.lost.edges c.in_ok-leaving.leaving.edges c.in_ok-edges.edges c.args.dead.now c.in_ok-leaving.ensures
    (rw (c.as_slice.ensures, c.as_slice-2.ensures) at c.in_ok-edges.ensures)
