use Rattle.std.proofs.Common.{List, All, sym, ap, ◌∙◌, subst}
use Rattle.set_explorer.specs.Types.{Oid, Label, Origin}
use Rattle.set_explorer.specs.PlannedNodes.{IsOrigin}
use Rattle.set_steps.specs.SetSteps.{AreSteps}
use Rattle.set_explorer.specs.inside.Founds.{steps_of}
use Rattle.set_explorer.proofs.ReadLaws.{fresh-steps, fresh-origins}
use Rattle.set_explorer.proofs.explore.read_targets.Goals as goal

pub returns-clause-steps : goal.returns-clause-steps
returns-clause-steps g c = λ kept.
    subst (λ (l : List (Label × List Oid)). AreSteps (g.A.Adjacent.edges c.args.graph.now) c.args.set.now l)
    (sym (ap (steps_of kept) c.in_ok-targets.ensures ∙ fresh-steps kept c.in_ok-row.row.items)) c.in_ok-row.ensures.row

pub returns-clause-there : goal.returns-clause-there
returns-clause-there g c = λ kept.
    subst (λ (l : List (Label × Origin)). All (λ (t : Label × Origin). IsOrigin kept t.1) l)
    (sym c.in_ok-targets.ensures) (fresh-origins kept c.in_ok-row.row.items)
