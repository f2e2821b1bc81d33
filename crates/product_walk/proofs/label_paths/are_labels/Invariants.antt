use Rattle.std.proofs.Common.{ℕ, ◌<◌, get_or}
use Rattle.lore_base.specs.declared.paths.Path.{Path}
use Rattle.product_walk.specs.inside.Ways.{IsLabel}
use Rattle.product_walk.proofs.label_paths.are_labels.Given as goal

abbrev pub invariant-paths : goal.invariant-paths
invariant-paths l = (k : ℕ) (other : Path) → k < l.path-index → IsLabel (get_or l.paths k other)
