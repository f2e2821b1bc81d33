use Rattle.std.proofs.Common.{ℕ, ◌<◌, ◌≤◌, length}
use Rattle.std.specs.List.{Contains}
use Rattle.lorel_ranges.specs.Views.{place_tree, place_trees, prefix_of}
use Rattle.lorel_ranges.proofs.plain_places.PlainPlaces.fixed_len.Given as goal

abbrev pub invariant-prefixes : goal.invariant-prefixes
invariant-prefixes l = record {
  within : l.len ≤ length l.path.parts.now;
  none : (longer : ℕ) → l.len < longer → longer ≤ length l.path.parts.now
      → Contains (place_trees l.self) (prefix_of longer (place_tree l.path)) → ⊥;
}

abbrev pub decreases-prefixes : goal.decreases-prefixes
decreases-prefixes l = l.len
