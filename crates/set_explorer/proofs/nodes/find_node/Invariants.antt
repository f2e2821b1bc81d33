use Rattle.std.proofs.Common.{ℕ, ◌<◌, ◌≤◌, ◌-◌, length, get_or}
use Rattle.set_explorer.specs.Nodes.{HasSet}
use Rattle.set_explorer.specs.Types.{Node}
use Rattle.set_explorer.proofs.nodes.find_node.Given as goal

abbrev pub invariant-run : goal.invariant-run
invariant-run l = record {
  from : l.start ≤ l.place;
  passed : (k : ℕ) (d : ℕ × Node) → l.start ≤ k → k < l.place → ¬ HasSet l.nodes (get_or l.by_hash k d).1 l.set;
}

abbrev pub decreases-run : goal.decreases-run
decreases-run l = length l.by_hash - l.place
