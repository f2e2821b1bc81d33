use Rattle.std.proofs.Common.{◌≡◌, ℕ, Option}
use Rattle.edge_lists.specs.Chains.{next_of}
use Rattle.edge_lists.specs.Runs.{ListsUpTo}
use Rattle.edge_lists.proofs.RunLaws.{ahead_of}
use Rattle.edge_lists.proofs.lists.push_records.Given as goal

abbrev pub invariant-records : goal.invariant-records
invariant-records l = (place : Option ℕ) × ListsUpTo l.side l.records l.fn.owner place l.fn.found l.found
    × (l.next ≡ next_of l.side l.objects l.records l.fn.owner place)

abbrev pub decreases-records : goal.decreases-records
decreases-records l = ahead_of l.side l.records l.next
