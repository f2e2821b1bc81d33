use Rattle.lorel_eval.specs.inside.Ready.{ready_tree, ready_trees}
use Rattle.lorel_eval.proofs.ReadyLaws.{and_ready}
use Rattle.lorel_eval.proofs.EarlyLaws.{and_told}
use Rattle.lorel_eval.proofs.early.fails_early.Goals as goal

pub returns-in-And : goal.returns-in-And
returns-in-And g c =
    and_told c.args.subject.now c.args.known.now c.as_slice.result.now (ready_trees c.in-And.members) (ready_tree c.args.cond.now) c.some_fails.result
    c.as_slice.ensures.trees (and_ready c.args.cond.now c.in-And.members c.in-And.is) c.some_fails.ensures
