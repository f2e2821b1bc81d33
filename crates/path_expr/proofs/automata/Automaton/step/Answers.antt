use Rattle.std.proofs.Common.{arith}
use Rattle.path_expr.specs.Machines.{Moves}
use Rattle.path_expr.proofs.StateLaws.{leads_more, leads_all}
use Rattle.path_expr.proofs.BeginLaws.{join_within}
use Rattle.path_expr.proofs.automata.Automaton.step.Goals as goal

pub states-preserved : goal.states-preserved
states-preserved g c = record {
  leads = leads_more (λ state next. Moves (g.T.LabelTest.texts c.args.labels.now) c.args.self.now state c.args.label next)
      c.args.states c.states.after c.moves.result c.join-after.result c.states.from c.in-Some.state
      c.states.invariant.leads c.in-Some.ensures.some.0 c.in-Some.ensures.some.1 c.in-Some.ensures.least c.moves.ensures.exact c.join-after.ensures;
  within = join_within c.states.after c.moves.result c.join-after.result c.join-after.ensures c.states.invariant.within c.moves.ensures.within;
  small = omega (arith, c.in-Some.ensures.within);
}

pub returns-clause-exact : goal.returns-clause-exact
returns-clause-exact g c =
    leads_all (λ state next. Moves (g.T.LabelTest.texts c.args.labels.now) c.args.self.now state c.args.label next)
    c.args.states c.states.after c.states.from c.states.invariant.leads c.in_default.ensures.none
