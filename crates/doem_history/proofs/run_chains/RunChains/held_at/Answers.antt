use Rattle.std.proofs.Common.{◌≡◌, ◌-◌, subst, Contains}
use Rattle.doem_history.specs.inside.Chains.{LinkedRuns}
use Rattle.doem_history.specs.Histories.{facts_at}
use Rattle.doem_history.proofs.KeptLaws.{is_held}
use Rattle.doem_history.proofs.WalkLaws.{walk_from, walk_past, walk_here, nothing_left, HoldsNothing, holds_nothing}
use Rattle.doem_history.proofs.run_chains.RunChains.held_at.Goals as goal

pub back-init : goal.back-init
back-init g c = walk_from g.F.Fact.owner_of _ _ _ c.self.invariant _ _ (HoldsNothing c.self.inside.runs.items c.args.moment) c.link_of-link.ensures

pub back-preserved : goal.back-preserved
back-preserved g c = walk_past g.F.Fact.owner_of _ _ _ c.self.invariant c.args.owner c.back.link _ (HoldsNothing c.self.inside.runs.items c.args.moment) c.index-run.result.now c.back-test.true c.back.invariant c.index-run.ensures c.index-link.ensures
    (holds_nothing c.self.inside.runs.items c.args.moment (c.back.link - 1) c.index-run.result.now c.holds.result c.holds.ensures.exact c.if-holds.false)

pub returns-then-holds-clause-some : goal.returns-then-holds-clause-some
returns-then-holds-clause-some g c =
    let both = c.holds.ensures.exact.0 c.if-holds.true in
    let here = walk_here g.F.Fact.owner_of _ _ _ c.self.invariant c.args.owner c.back.link (HoldsNothing c.self.inside.runs.items c.args.moment) c.index-run.result.now c.back-test.true c.back.invariant c.index-run.ensures in
    (subst (λ (t : LinkedRuns _). Contains (facts_at c.args.moment t.runs) c.index-run.result.now.fact) c.self.view_is (is_held c.args.moment c.self.inside.runs.items c.index-run.result.now here.0 both.0 both.1), here.1)

pub returns-clause-none : goal.returns-clause-none
returns-clause-none g c = subst (λ (t : LinkedRuns _). (fact : _) → Contains (facts_at c.args.moment t.runs) fact → g.F.Fact.owner_of fact ≡ c.args.owner → ⊥) c.self.view_is
    (nothing_left g.F.Fact.owner_of _ _ _ c.self.invariant c.args.owner c.args.moment c.back.link c.back-test.false c.back.invariant)
