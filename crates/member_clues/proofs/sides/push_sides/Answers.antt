use Rattle.std.proofs.Common.{arith, subst}
use Rattle.lorel_bound.specs.Bound.{BoundPathTree, bound_path}
use Rattle.lorel_bound.specs.Conditions.{CondOf, exists}
use Rattle.lorel_bound.proofs.BoundLaws.{compare_cond}
use Rattle.member_clues.specs.Asked.{Follows}
use Rattle.member_clues.proofs.MadeLaws.{same_cond, few_sides, few_met}
use Rattle.member_clues.proofs.sides.push_sides.Goals as goal

pub push_both-requires-clause-left : goal.push_both-requires-clause-left
push_both-requires-clause-left c = omega (arith, few_sides c.args.cond.now c.in-Compare.left c.in-Compare.op c.in-Compare.right c.in-Compare.is, c.requires.cond)

pub push_both-requires-clause-right : goal.push_both-requires-clause-right
push_both-requires-clause-right c = omega (arith, few_sides c.args.cond.now c.in-Compare.left c.in-Compare.op c.in-Compare.right c.in-Compare.is, c.requires.cond)

pub returns-in-Compare : goal.returns-in-Compare
returns-in-Compare c = λ whole follows all. c.push_both.ensures whole
    (subst (λ (w : CondOf BoundPathTree). Follows c.args.labels.now whole (exists (bound_path c.args.path.now) w))
    (compare_cond c.args.cond.now c.in-Compare.left c.in-Compare.op c.in-Compare.right c.in-Compare.is) follows) all

pub push_both_met-requires-clause-left : goal.push_both_met-requires-clause-left
push_both_met-requires-clause-left c = omega (arith, few_met c.args.cond.now c.in-Same.left c.in-Same.right c.in-Same.is, c.requires.cond)

pub push_both_met-requires-clause-right : goal.push_both_met-requires-clause-right
push_both_met-requires-clause-right c = omega (arith, few_met c.args.cond.now c.in-Same.left c.in-Same.right c.in-Same.is, c.requires.cond)

pub returns-in-Same : goal.returns-in-Same
returns-in-Same c = λ whole follows all. c.push_both_met.ensures c.args.labels.now whole
    (subst (λ (w : CondOf BoundPathTree). Follows c.args.labels.now whole (exists (bound_path c.args.path.now) w))
    (same_cond c.args.cond.now c.in-Same.left c.in-Same.right c.in-Same.is) follows) all

pub returns-in_default : goal.returns-in_default
returns-in_default c = λ whole follows all. all
