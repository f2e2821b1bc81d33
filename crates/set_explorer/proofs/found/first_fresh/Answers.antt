use Rattle.std.proofs.Common.{List, All, subst}
use Rattle.std.proofs.lemmas.Bool.{false≢true}
use Rattle.std.proofs.lemmas.List.{take_all}
use Rattle.std.proofs.lemmas.List.Elements.{All-more}
use Rattle.set_explorer.specs.Types.{Node}
use Rattle.set_explorer.specs.inside.Founds.{IsFreshAt}
use Rattle.set_explorer.proofs.found.first_fresh.Goals as goal

pub listed-preserved : goal.listed-preserved
listed-preserved c =
    All-more (λ (node : Node). ¬ IsFreshAt c.args.nodes.now node c.args.set.now) c.args.listed.now c.listed.node-index
    (record { 0 = 0 }) c.listed-test.true c.listed.invariant
    (λ has. false≢true (c.if-is_fresh_at.ensures.1 has))

pub returns-clause-none : goal.returns-clause-none
returns-clause-none c =
    subst (λ (l : List Node). All (λ node. ¬ IsFreshAt c.args.nodes.now node c.args.set.now) l)
    (take_all c.listed.node-index c.args.listed.now c.listed-test.false) c.listed.invariant
