use Rattle.std.proofs.Common.{◌≡◌, [], take}
use Rattle.lore_base.specs.inside.NameTables.{names_after}
use Rattle.doem_history.proofs.name_facts.name_table.Given as goal

abbrev pub invariant-facts : goal.invariant-facts
invariant-facts l = l.names ≡ names_after [] (take l.fact-index l.facts)
