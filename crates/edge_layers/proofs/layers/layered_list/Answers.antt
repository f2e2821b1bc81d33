use Rattle.std.proofs.Common.{map, ap, ◌∙◌}
use Rattle.index_traits.proofs.OutLaws.{ascend-out_of}
use Rattle.edge_layers.specs.Turned.{turn}
use Rattle.edge_layers.proofs.TurnLaws.{kept_ascends, layered_is}
use Rattle.edge_layers.proofs.layers.layered_list.Goals as goal

pub layered_run-requires-clause-kept : goal.layered_run-requires-clause-kept
layered_run-requires-clause-kept c =
    let lists = rw c.new-kept.ensures at c.in_ok-push_list.ensures.ok in
    rw c.as_slice-2.ensures
    (kept_ascends c.args.side c.args.records.now c.args.owner c.push_list.new.found c.in_ok-kept.kept lists (c.in_ok-kept.ensures ∙ ap (map (turn c.args.side)) c.as_slice.ensures))

pub layered_run-requires-clause-lost : goal.layered_run-requires-clause-lost
layered_run-requires-clause-lost c = rw c.run_of-lost.ensures (ascend-out_of _ _ c.requires.lost)

pub layered_run-requires-clause-fresh : goal.layered_run-requires-clause-fresh
layered_run-requires-clause-fresh c = rw c.run_of-fresh.ensures (ascend-out_of _ _ c.requires.fresh)

pub returns : goal.returns
returns c =
    let lists = rw c.new-kept.ensures at c.in_ok-push_list.ensures.ok in
    layered_is c.args.side c.args.records.now c.args.lost.now c.args.fresh.now c.args.owner c.push_list.new.found c.in_ok-kept.kept c.in_ok-list.list lists
    (c.in_ok-kept.ensures ∙ ap (map (turn c.args.side)) c.as_slice.ensures)
    (rw (c.as_slice-2.ensures, c.run_of-lost.ensures, c.run_of-fresh.ensures) at c.in_ok-list.ensures)
