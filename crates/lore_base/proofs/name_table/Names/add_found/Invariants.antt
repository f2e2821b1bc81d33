use Rattle.std.proofs.Common.{◌≡◌, ◌++◌, drop}
use Rattle.lore_base.specs.inside.NameTables.{found_objects}
use Rattle.lore_base.proofs.name_table.Names.add_found.Given as goal

abbrev pub invariant-words : goal.invariant-words
invariant-words l =
    l.oids ++ found_objects l.fn.self (drop l.word-index l.word-items) ≡ l.fn.oids ++ found_objects l.fn.self l.fn.words
