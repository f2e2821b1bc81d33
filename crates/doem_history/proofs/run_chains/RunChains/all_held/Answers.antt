use Rattle.std.proofs.Common.{◌≡◌, ◌↔◌, ◌∙◌, sym, subst, List, Contains}
use Rattle.doem_history.specs.Histories.{facts_at}
use Rattle.doem_history.specs.inside.Chains.{LinkedRuns}
use Rattle.doem_history.proofs.WalkLaws.{found_start, found_on, found_past, found_all, HasFound}
use Rattle.doem_history.proofs.run_chains.RunChains.all_held.Goals as goal
use Rattle.doem_history.proofs.run_chains.RunChains.all_held.Goals.{then-holds+in_ok-push, else-holds}

pub back-init : goal.back-init
back-init g c = found_start g.F.Fact.owner_of _ _ _ c.self.invariant _ _ _ _ c.new-held.ensures c.link_of-link.ensures

pub back-preserved : goal.back-preserved
back-preserved g c = elim c.if-holds.branch [
  | then-holds+in_ok-push w ↦ found_on g.F.Fact.owner_of _ _ _ c.self.invariant c.args.owner c.args.moment c.back.link _ c.back.held _ c.index-run.result.now c.holds.result c.back-test.true c.back.invariant c.index-run.ensures c.index-link.ensures c.holds.ensures.exact w.if-holds.true (w.held-is ∙ w.in_ok-push.ensures.ok)
  | else-holds w ↦ subst (λ (l : List _). HasFound g.F.Fact.owner_of c.self.inside.runs.items c.args.owner c.args.moment c.index-link.result.now l) (sym w.held-is) (found_past g.F.Fact.owner_of _ _ _ c.self.invariant c.args.owner c.args.moment c.back.link _ c.back.held c.index-run.result.now c.holds.result c.back-test.true c.back.invariant c.index-run.ensures c.index-link.ensures c.holds.ensures.exact w.if-holds.false)
]

pub returns : goal.returns
returns g c =
    subst (λ (t : LinkedRuns _). (fact : _) → Contains c.back.held fact ↔ (Contains (facts_at c.args.moment t.runs) fact × (g.F.Fact.owner_of fact ≡ c.args.owner))) c.self.view_is
    (found_all g.F.Fact.owner_of _ _ _ c.self.invariant c.args.owner c.args.moment c.back.link c.back.held c.back-test.false c.back.invariant)
