use Rattle.std.proofs.Common.{arith}
use Rattle.path_expr.proofs.MoverLaws.{followers_none, followers_more, followers_all}
use Rattle.path_expr.proofs.mover.followers.Goals as goal

pub states-init : goal.states-init
states-init c = record {
  within = omega arith;
  exact = followers_none c.args.automaton.now c.args.states c.none-after.result c.none-after.ensures;
}

pub states-preserved : goal.states-preserved
states-preserved c = record {
  within = omega (arith, c.in-Some.ensures.within);
  exact = followers_more c.args.automaton.now c.args.states c.states.after c.follow.result c.join-after.result c.states.from c.in-Some.state
      c.states.invariant.exact c.in-Some.ensures.some.0 c.in-Some.ensures.some.1 c.in-Some.ensures.least c.follow.ensures.exact c.join-after.ensures;
}

pub returns : goal.returns
returns c = followers_all c.args.automaton.now c.args.states c.states.after c.states.from c.states.invariant.exact c.in_default.ensures.none
