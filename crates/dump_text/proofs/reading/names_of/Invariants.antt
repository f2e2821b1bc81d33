use Rattle.std.proofs.Common.{◌≡◌, [], drop}
use Rattle.lore_base.specs.inside.NameTables.{names_after}
use Rattle.dump_text.proofs.reading.names_of.Given as goal

abbrev pub invariant-entries : goal.invariant-entries
invariant-entries l = names_after l.names (drop l.name-index l.fn.entries) ≡ names_after [] l.fn.entries
