use Rattle.std.proofs.Common.{map, take}
use Rattle.lorel_trees.specs.Trees.{from_tree}
use Rattle.lorel_ranges.specs.Readings.{ReadsFrom}
use Rattle.lorel_ranges.proofs.text.from_text.Given as goal

abbrev pub invariant-items : goal.invariant-items
invariant-items l = ReadsFrom (map from_tree (take l.number l.items)) l.found l.variables
