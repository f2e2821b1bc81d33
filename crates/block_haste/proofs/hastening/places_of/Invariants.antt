use Rattle.std.proofs.Common.{[], ℕ, ◌<◌, All, Contains, take}
use Rattle.std.specs.Prelude.{slice_index_or}
use Rattle.block_haste.proofs.hastening.places_of.Given as goal

abbrev pub invariant-nodes : goal.invariant-nodes
invariant-nodes l = record {
  every : (node place : ℕ) → Contains (take l.node-index l.nodes) node → Contains (slice_index_or l.outs node []) place
      → Contains l.places.items place;
  within : (count : ℕ) → All (λ own. All (λ place. place < count) own) l.outs → All (λ place. place < count) l.places.items;
}
