use Rattle.doem_history.proofs.WalkLaws.{HasFound}
use Rattle.doem_history.proofs.run_chains.RunChains.all_held.Given as goal

abbrev pub invariant-back : goal.invariant-back
invariant-back g l = HasFound g.F.Fact.owner_of l.self-inside.runs.items l.fn.owner l.moment l.link l.held

abbrev pub decreases-back : goal.decreases-back
decreases-back g l = l.link
