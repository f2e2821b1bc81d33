use Rattle.std.proofs.Common.{arith, subst}
use Rattle.lorel_bound.specs.Bound.{BoundPathTree}
use Rattle.lorel_bound.specs.Conditions.{CondOf}
use Rattle.lorel_bound.proofs.BoundLaws.{compare_cond}
use Rattle.member_clues.specs.Asked.{Follows}
use Rattle.member_clues.proofs.MadeLaws.{few_sides}
use Rattle.member_clues.proofs.clues.push_compared.Goals as goal

pub push_both-requires-clause-left : goal.push_both-requires-clause-left
push_both-requires-clause-left c = omega (arith, few_sides c.args.cond.now c.in-Compare.left c.in-Compare.op c.in-Compare.right c.in-Compare.is, c.requires)

pub push_both-requires-clause-right : goal.push_both-requires-clause-right
push_both-requires-clause-right c = omega (arith, few_sides c.args.cond.now c.in-Compare.left c.in-Compare.op c.in-Compare.right c.in-Compare.is, c.requires)

pub returns-in-Compare : goal.returns-in-Compare
returns-in-Compare c = λ whole follows all. c.push_both.ensures whole
    (subst (λ (w : CondOf BoundPathTree). Follows c.args.labels.now whole w)
    (compare_cond c.args.cond.now c.in-Compare.left c.in-Compare.op c.in-Compare.right c.in-Compare.is) follows) all

pub returns-in_default : goal.returns-in_default
returns-in_default c = λ whole follows all. all
