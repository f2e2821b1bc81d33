use Rattle.std.proofs.Common.{sym, ◌∙◌, subst}
use Rattle.std.specs.Option.{IfSome}
use Rattle.indexmap.specs.IndexMap.{get}
use Rattle.path_expr.specs.Machines.{Moving, IsStep}
use Rattle.path_expr.specs.inside.Movers.{IsMove, same_label}
use Rattle.path_expr.proofs.MoverLaws.{Remembers-more, IsStep-again, IsStep-followers}
use Rattle.path_expr.proofs.mover.Mover.after.Goals as goal

pub returns-then-known-states-clause-step : goal.returns-then-known-states-clause-step
returns-then-known-states-clause-step g c =
    let labels = g.T.LabelTest.texts c.self.inside.labels.now in
    let machine = c.self.inside.automaton.now in
    let known = c.in-Some.known in
    let move = subst (λ m. IfSome m (IsMove labels machine c.args.label)) (sym c.remembered-known.ensures ∙ c.in-Some.is) (c.self.invariant.0 c.args.label) in
    subst (λ (m : Moving). IsStep m.labels m.machine c.args.states c.args.label known.after) c.self.view_is
    (IsStep-again labels machine c.args.states known.from known.after c.args.label move.step c.if-known-states.true)

pub invariant_of-self-2 : goal.invariant_of-self-2
invariant_of-self-2 g c =
    let labels = g.T.LabelTest.texts c.self.inside.labels.now in
    let machine = c.self.inside.automaton.now in
    let readers = c.readers_of-readers in
    let step = IsStep-followers labels machine c.args.states readers.result c.meet.result c.followers-after.result c.args.label readers.ensures c.meet.ensures
    c.followers-after.ensures in (
      Remembers-more labels machine (get same_label c.self.inside.moves) (get same_label c.insert.new.self) c.args.label
          (record { readers = readers.result; from = c.args.states; after = c.followers-after.result })
          c.self.invariant.0 (record { readers = readers.ensures; step = step }) c.in_ok-insert.ensures.updates.0,
      c.self.invariant.1,
    )

pub returns-clause-step : goal.returns-clause-step
returns-clause-step g c =
    let labels = g.T.LabelTest.texts c.self.inside.labels.now in
    let machine = c.self.inside.automaton.now in
    let readers = c.readers_of-readers in
    subst (λ (m : Moving). IsStep m.labels m.machine c.args.states c.args.label c.followers-after.result) c.self.view_is
    (IsStep-followers labels machine c.args.states readers.result c.meet.result c.followers-after.result c.args.label readers.ensures c.meet.ensures c.followers-after.ensures)
