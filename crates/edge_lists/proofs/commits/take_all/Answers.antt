use Rattle.edge_lists.proofs.CommitLaws.{taken_none, taken_step}
use Rattle.edge_lists.proofs.commits.take_all.Goals as goal

pub gone-init : goal.gone-init
gone-init c = taken_none c.args.objects.now c.args.records.now c.requires.ascend c.requires.out c.requires.entering

pub gone-preserved : goal.gone-preserved
gone-preserved c = taken_step c.args.gone.now c.gone.place _ c.gone-test.true c.args.objects.now c.gone.objects c.take_edge.new.objects
    c.args.records.now c.gone.records c.take_edge.new.records c.gone.invariant c.take_edge.ensures
