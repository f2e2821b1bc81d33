use Rattle.doem_history.specs.inside.Chains.{owners_of}
use Rattle.doem_history.proofs.ChainLaws.{HasWalked}
use Rattle.doem_history.proofs.WalkLaws.{HoldsNothing}
use Rattle.doem_history.proofs.run_chains.RunChains.held_at.Given as goal

abbrev pub invariant-back : goal.invariant-back
invariant-back g l = HasWalked (owners_of g.F.Fact.owner_of l.self-inside.runs.items) l.fn.owner l.link (HoldsNothing l.self-inside.runs.items l.moment)

abbrev pub decreases-back : goal.decreases-back
decreases-back g l = l.link
