use Rattle.std.proofs.Common.{ℕ, ◌<◌, List, get_or}
use Rattle.lore_base.specs.Names.{IsName}
use Rattle.dump_text.specs.Types.{Oid}
use Rattle.dump_text.proofs.rules.are_names.Given as goal

abbrev pub invariant-names : goal.invariant-names
invariant-names l = (k : ℕ) (d : List ℕ × Oid) → k < l.entry-index → IsName (get_or l.names k d).0
