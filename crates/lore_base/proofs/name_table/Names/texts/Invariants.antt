use Rattle.std.proofs.Common.{◌≡◌, ◌++◌}
use Rattle.std.specs.Map.{keys_of}
use Rattle.lore_base.proofs.name_table.Names.texts.Given as goal

abbrev pub invariant-names : goal.invariant-names
invariant-names l = l.texts ++ keys_of l.name-iterator ≡ keys_of l.fn.self
