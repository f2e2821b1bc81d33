use Rattle.std.proofs.Common.{◌≡◌, ℕ, ◌<◌, ◌≤◌, ◌⊎◌, length, get_or, None}
use Rattle.block_haste.proofs.hastening.clear.Given as goal

abbrev pub invariant-nodes : goal.invariant-nodes
invariant-nodes l = record {
  every : length l.marks.items ≡ length l.fn.marks.items;
  left : (at : ℕ) → (get_or l.marks.items at None ≡ None)
      ⊎ ((k : ℕ) × (l.node-index ≤ k) × (k < length l.touched) × (get_or l.touched k at ≡ at));
}
