-- What dump texts stand for: each for one database at most, the rules tell which of them do, and each other one is bad.
use Rattle.std.specs.Prelude.{◌≡◌, ◌↔◌, ◌⊎◌}
use Rattle.dump_text.specs.Types.{DumpTree}
use Rattle.lore_base.specs.Databases.{Database}
use Rattle.dump_text.specs.Rules.{KeepsRules}
use Rattle.dump_text.specs.Restores.{IsDumpOf, IsBad}
use Rattle.lore_base.specs.Databases.{IsRestorable}

-- the tree is the dump of some database that is valid, the number of its target sets left aside
abbrev pub IsDump : DumpTree → Type 0
IsDump tree = (db : Database) × IsDumpOf tree db × IsRestorable db

-- two such databases with one dump are one
abbrev pub StandsForOne : Type 0
StandsForOne =
    (tree : DumpTree) (a b : Database) → IsDumpOf tree a → IsDumpOf tree b → IsRestorable a → IsRestorable b → a ≡ b

-- the rules are kept exactly where there is such a database
abbrev pub RulesTell : Type 0
RulesTell = (tree : DumpTree) → KeepsRules tree ↔ IsDump tree

-- there is such a database, or the tree is bad
abbrev pub IsDumpOrBad : Type 0
IsDumpOrBad = (tree : DumpTree) → IsDump tree ⊎ IsBad tree
