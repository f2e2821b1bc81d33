use Rattle.std.proofs.Common.{ℕ, ◌<◌, All, Contains, take}
use Rattle.block_haste.proofs.exchanging.note_moved.Given as goal

abbrev pub invariant-moves : goal.invariant-moves
invariant-moves l = record {
  kept : (node : ℕ) → Contains l.fn.nodes.items node → Contains l.nodes.items node;
  noted : All (λ move. Contains l.nodes.items move.0) (take l.step-index l.moves);
  within : (count : ℕ) → All (λ move. move.0 < count) l.moves → All (λ node. node < count) l.fn.nodes.items
      → All (λ node. node < count) l.nodes.items;
}
