use Rattle.std.proofs.Common.{◌≡◌, ◌++◌}
use Rattle.std.specs.Map.{keys_of}
use Rattle.lore_base.specs.inside.NameTables.{found_objects}
use Rattle.lore_base.proofs.name_table.Names.add_bound.Given as goal

abbrev pub invariant-names : goal.invariant-names
invariant-names l =
    l.oids ++ found_objects l.fn.self (keys_of l.name-iterator) ≡ l.fn.oids ++ found_objects l.fn.self (keys_of l.fn.more)
