use Rattle.doem_history.specs.inside.Chains.{owners_of}
use Rattle.doem_history.proofs.ChainLaws.{HasWalked}
use Rattle.doem_history.proofs.WalkLaws.{IsNotOpen}
use Rattle.doem_history.proofs.run_chains.RunChains.open_place.Given as goal

abbrev pub invariant-back : goal.invariant-back
invariant-back g l = HasWalked (owners_of g.F.Fact.owner_of l.self-inside.runs.items) (g.F.Fact.owner_of l.fact) l.link (IsNotOpen l.self-inside.runs.items l.fact)

abbrev pub decreases-back : goal.decreases-back
decreases-back g l = l.link
