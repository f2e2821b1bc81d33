use Rattle.set_explorer.proofs.LossLaws.{left-union}
use Rattle.set_explorer.proofs.losses.left_target.Goals as goal

pub returns-clause-left : goal.returns-clause-left
returns-clause-left c =
    left-union c.args.kept.now c.args.edges.now c.args.rest.now c.args.come.now c.args.label c.in_ok-target.target
    c.in_ok-target.ensures.there c.in_ok-target.ensures.set c.in_default.ensures.none
