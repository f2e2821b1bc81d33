use Rattle.std.proofs.Common.{◌≡◌, inl, inr, rules, arith}
use Rattle.path_expr.specs.Machines.{IsIn, Follows}
use Rattle.path_expr.proofs.StateLaws.{so_far_more}
use Rattle.path_expr.proofs.ReverseLaws.{follows_within}
use Rattle.path_expr.proofs.automata.Automaton.before.Goals as goal

pub leaves-preserved : goal.leaves-preserved
leaves-preserved c =
    so_far_more (λ other. (other ≡ 64) × IsIn c.args.self.now.start c.args.state) (λ other. Follows c.args.self.now other c.args.state)
    c.leaves.before c.with-before-in-leaves.result c.leaves.other c.has-in-leaves.result c.leaves.invariant
    (λ h. (c.follow.ensures.exact c.args.state).0 (c.has-in-leaves.ensures.0 h), λ h. c.has-in-leaves.ensures.1 ((c.follow.ensures.exact c.args.state).1 h))
    c.with-before-in-leaves.ensures

pub returns-clause-exact : goal.returns-clause-exact
returns-clause-exact c = λ other. (
  λ h. elim ((c.leaves.invariant other).0 h) [ inl start ↦ inr start | inr follows ↦ inl follows.1 ],
  λ h. elim h [
    | inl follows ↦ (c.leaves.invariant other).1 (inr (omega (arith, follows_within c.args.self.now other c.args.state (search rules) follows), follows))
    | inr start ↦ (c.leaves.invariant other).1 (inl start)
  ],
)
