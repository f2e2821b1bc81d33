use Rattle.edge_lists.specs.Types.{Out, In}
use Rattle.edge_lists.proofs.CommitLaws.{live_end, taken_one}
use Rattle.edge_lists.proofs.commits.take_edge.Goals as goal

pub take_out-requires-clause-parent : goal.take_out-requires-clause-parent
take_out-requires-clause-parent c = live_end Out c.args.objects.now c.args.records.now c.requires.out c.args.edge.now (c.in-Some.key, c.in-Some.ensures.some)

pub take_out-requires-clause-child : goal.take_out-requires-clause-child
take_out-requires-clause-child c = live_end In c.args.objects.now c.args.records.now c.requires.entering c.args.edge.now (c.in-Some.key, c.in-Some.ensures.some)

pub returns-in-Some : goal.returns-in-Some
returns-in-Some c = taken_one c.args.edge.now c.args.objects.now c.take_out.new.objects c.args.records.now c.take_out.new.records c.in-Some.key
    c.requires.out c.in-Some.ensures.some c.take_out.ensures
