use Rattle.std.proofs.Common.{ℕ, ◌<◌, List, get_or}
use Rattle.lore_base.specs.Databases.{IsLive}
use Rattle.dump_text.specs.Types.{Oid}
use Rattle.dump_text.proofs.rules.are_named.Given as goal

abbrev pub invariant-names : goal.invariant-names
invariant-names l = (k : ℕ) (d : List ℕ × Oid) → k < l.entry-index → IsLive l.objects (get_or l.names k d).1
