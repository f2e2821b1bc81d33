use Rattle.std.proofs.Common.{◌≡◌, true≢false, rules, subst, sym, Contains}
use Rattle.std.proofs.lemmas.Fn.{always_returns_same}
use Rattle.doem_facts.proofs.FactSetLaws.{one_found, none_found}
use Rattle.doem_facts.proofs.fact_sets.is_among.Goals as goal

pub returns-in-Ok : goal.returns-in-Ok
returns-in-Ok g c =
    let equal = c.in-Ok.ensures.position (λ e. g.F.Fact.order e c.args.fact.now)
    (always_returns_same _ (λ a r. r ≡ g.F.Fact.order a.0.now c.args.fact.now) _ (λ a r q k. search rules)) in
    let one = one_found g.F.Fact.order g.met.F.Fact.total c.args.facts.now c.requires c.args.fact.now c.index-facts-place.result _ c.in-Ok.ensures.bound c.index-facts-place.is (equal _) in
    ((λ yes. subst (λ f. Contains c.args.facts.now f) (c.is.ensures.0 yes) one.0), (λ at. c.is.ensures.1 (one.1 at)))

pub returns-in-Err : goal.returns-in-Err
returns-in-Err g c =
    let gap = c.in-Err.ensures.position (λ e. g.F.Fact.order e c.args.fact.now)
    (always_returns_same _ (λ a r. r ≡ g.F.Fact.order a.0.now c.args.fact.now) _ (λ a r q k. search rules)) in
    ((λ no. absurd (true≢false (sym no))), (λ at. absurd (none_found g.F.Fact.order g.met.F.Fact.total c.args.facts.now c.requires c.args.fact.now _ gap at)))
