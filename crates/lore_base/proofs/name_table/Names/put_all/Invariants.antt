use Rattle.std.proofs.Common.{◌≡◌}
use Rattle.lore_base.specs.inside.NameTables.{names_after}
use Rattle.lore_base.proofs.name_table.Names.put_all.Given as goal

abbrev pub invariant-entries : goal.invariant-entries
invariant-entries l = names_after l.self l.name-iterator ≡ names_after l.fn.self l.fn.more
