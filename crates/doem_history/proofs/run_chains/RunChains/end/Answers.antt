use Rattle.std.proofs.Common.{ap, ◌∙◌, length, arith}
use Rattle.doem_history.specs.inside.Chains.{LinkedRuns}
use Rattle.doem_history.specs.inside.Kept.{end_at}
use Rattle.doem_history.proofs.ChainLaws.{set-end_at, linked-end}
use Rattle.doem_history.proofs.run_chains.RunChains.end.Goals as goal

pub invariant_of-self : goal.invariant_of-self
invariant_of-self g c =
    let lt = ap (λ (t : LinkedRuns _). length t.runs) c.self.view_is in
    linked-end _ c.args.moment c.args.place _ _ _ _ c.self.invariant (set-end_at c.args.moment c.args.place c.self.inside.runs.items c.index_mut.result.now c.index_mut.ensures.value (omega arith))

pub returns-clause-runs : goal.returns-clause-runs
returns-clause-runs g c =
    let lt = ap (λ (t : LinkedRuns _). length t.runs) c.self.view_is in
    set-end_at c.args.moment c.args.place c.self.inside.runs.items c.index_mut.result.now c.index_mut.ensures.value (omega arith)
    ∙ ap (λ (t : LinkedRuns _). end_at c.args.moment c.args.place t.runs) c.self.view_is
