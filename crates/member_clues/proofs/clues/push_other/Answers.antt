use Rattle.std.proofs.Common.{arith, subst}
use Rattle.lorel_bound.specs.Bound.{BoundPathTree}
use Rattle.lorel_bound.specs.Conditions.{CondOf}
use Rattle.lorel_bound.proofs.BoundLaws.{exists_cond}
use Rattle.member_clues.specs.Asked.{Follows}
use Rattle.member_clues.proofs.MadeLaws.{same_cond, few_met, few_through}
use Rattle.member_clues.proofs.clues.push_other.Goals as goal

pub push_both_met-requires-clause-left : goal.push_both_met-requires-clause-left
push_both_met-requires-clause-left c = omega (arith, few_met c.args.cond.now c.in-Same.left c.in-Same.right c.in-Same.is, c.requires)

pub push_both_met-requires-clause-right : goal.push_both_met-requires-clause-right
push_both_met-requires-clause-right c = omega (arith, few_met c.args.cond.now c.in-Same.left c.in-Same.right c.in-Same.is, c.requires)

pub returns-in-Same : goal.returns-in-Same
returns-in-Same c = λ whole follows all. c.push_both_met.ensures c.args.labels.now whole
    (subst (λ (w : CondOf BoundPathTree). Follows c.args.labels.now whole w)
    (same_cond c.args.cond.now c.in-Same.left c.in-Same.right c.in-Same.is) follows) all

pub push_through-requires-clause-path : goal.push_through-requires-clause-path
push_through-requires-clause-path c =
    omega (arith, few_through c.args.cond.now c.deref.result.now c.in-Exists.path c.in-Exists.body c.in-Exists.is c.deref.ensures, c.requires)

pub push_through-requires-clause-body : goal.push_through-requires-clause-body
push_through-requires-clause-body c =
    omega (arith, few_through c.args.cond.now c.deref.result.now c.in-Exists.path c.in-Exists.body c.in-Exists.is c.deref.ensures, c.requires)

pub returns-in-Exists : goal.returns-in-Exists
returns-in-Exists c = λ whole follows all. c.push_through.ensures whole
    (subst (λ (w : CondOf BoundPathTree). Follows c.args.labels.now whole w)
    (exists_cond c.args.cond.now c.deref.result.now c.in-Exists.path c.in-Exists.body c.in-Exists.is c.deref.ensures) follows) all

pub returns-in_default : goal.returns-in_default
returns-in_default c = λ whole follows all. all
