use Rattle.std.proofs.Common.{ap, ◌∙◌, ◌≡◌, ◌+◌, length, arith, cond, Some, ◌++◌, ◌∷◌, []}
use Rattle.indexmap.specs.IndexMap.{get}
use Rattle.doem_history.specs.Types.{STANDING}
use Rattle.doem_history.specs.inside.Chains.{LinkedRuns}
use Rattle.doem_history.specs.inside.Chains.{same_oid}
use Rattle.doem_history.proofs.ChainLaws.{linked-push}
use Rattle.doem_history.proofs.run_chains.RunChains.begin.Goals as goal

pub invariant_of-self : goal.invariant_of-self
invariant_of-self g c =
    let same = ap (λ (t : LinkedRuns _). length t.runs) c.self.view_is in
    let long : c.len.result ≡ length c.self.inside.runs.items = omega (arith, c.len.ensures, c.self.inside.runs.ok.0) in
    linked-push _ _ _ _ _ (record { fact = c.args.fact; begin = c.args.moment; end = STANDING }) c.owner-owner.result _ _ c.self.invariant (omega arith) c.owner-owner.ensures
    (λ other. c.put_link.ensures.told other ∙ ap (λ n. cond (same_oid c.owner-owner.result other) (Some (n + 1)) (get same_oid c.self.inside.newest other)) long)
    c.push_reserved-2.ensures.items
    (c.push_reserved.ensures.items ∙ ap (λ n. c.self.inside.older.items ++ n ∷ []) c.link_of-older.ensures)
