use Rattle.std.proofs.Common.{◌≡◌, ℕ, ◌<◌, ◌≤◌, ◌⊎◌, length, get_or}
use Rattle.block_haste.proofs.hastening.catch_up.Given as goal

abbrev pub invariant-nodes : goal.invariant-nodes
invariant-nodes l = record {
  every : length l.tags.items ≡ length l.numbers;
  left : (at : ℕ) → at < length l.numbers → (get_or l.tags.items at 0 ≡ get_or l.numbers at 0)
      ⊎ ((k : ℕ) × (l.node-index ≤ k) × (k < length l.changed) × (get_or l.changed k at ≡ at));
}
