use Rattle.std.proofs.Common.{◌≡◌, drop}
use Rattle.lore_base.specs.inside.NameTables.{names_without}
use Rattle.lore_base.proofs.name_table.Names.take_all.Given as goal

abbrev pub invariant-words : goal.invariant-words
invariant-words l = names_without l.self (drop l.word-index l.word-items) ≡ names_without l.fn.self l.fn.words
