use Rattle.std.proofs.Common.{ℕ, ◌-◌, subst}
use Rattle.doem_history.specs.inside.Chains.{LinkedRuns}
use Rattle.doem_history.specs.Plans.{IsOpen}
use Rattle.doem_history.proofs.WalkLaws.{open_start, open_on, open_here, open_none}
use Rattle.doem_history.proofs.run_chains.RunChains.open_place.Goals as goal

pub back-init : goal.back-init
back-init g c = open_start g.F.Fact.owner_of _ _ _ c.self.invariant c.args.fact.now _ _ c.owner.ensures c.link_of-link.ensures

pub returns-then-is_open-clause-some : goal.returns-then-is_open-clause-some
returns-then-is_open-clause-some g c =
    subst (λ (t : LinkedRuns _). IsOpen t.runs (c.back.link - 1) c.args.fact.now) c.self.view_is
    (open_here g.F.Fact.owner_of _ _ _ c.self.invariant c.args.fact.now c.back.link c.index-run.result.now c.is_open.result c.back-test.true c.back.invariant c.index-run.ensures c.is_open.ensures c.if-is_open.true)

pub back-preserved : goal.back-preserved
back-preserved g c =
    open_on g.F.Fact.owner_of _ _ _ c.self.invariant c.args.fact.now c.back.link _ c.index-run.result.now c.is_open.result c.back-test.true c.back.invariant c.index-run.ensures c.index-link.ensures c.is_open.ensures c.if-is_open.false

pub returns-clause-none : goal.returns-clause-none
returns-clause-none g c =
    subst (λ (t : LinkedRuns _). (place : ℕ) → IsOpen t.runs place c.args.fact.now → ⊥) c.self.view_is
    (open_none g.F.Fact.owner_of _ _ _ c.self.invariant c.args.fact.now c.back.link c.back-test.false c.back.invariant)
