use Rattle.std.proofs.Common.{◌∙◌}
use Rattle.set_explorer.proofs.LossLaws.{joined-step}
use Rattle.set_explorer.proofs.losses.with_step.Goals as goal

pub returns : goal.returns
returns c =
    joined-step c.args.left.now c.args.step.now c.from_ascending-set.result c.union_into.new.out c.union_into-2.new.out
    (c.from_ascending-set.ensures ∙ c.new.ensures) c.in_ok-union_into.ensures.ok c.in_ok-union_into-2.ensures.ok
