use Rattle.std.proofs.Common.{map, subst}
use Rattle.lorel_trees.specs.Trees.{from_tree}
use Rattle.lorel_ranges.specs.Readings.{ReadsFrom}
use Rattle.lorel_ranges.proofs.text.text_of.Goals as goal

pub text_behind-requires-clause-from : goal.text_behind-requires-clause-from
text_behind-requires-clause-from c =
    subst (λ l. ReadsFrom (map from_tree l) c.in-Ok.from c.from_text.new.variables) c.as_slice-ranges.ensures c.in-Ok.ensures
