use Rattle.std.proofs.Common.{ℕ, ◌<◌, get_or}
use Rattle.lore_base.specs.Databases.{IsLinked}
use Rattle.dump_text.specs.Types.{Edge}
use Rattle.dump_text.proofs.rules.are_linked.Given as goal

abbrev pub invariant-edges : goal.invariant-edges
invariant-edges l = (k : ℕ) (d : Edge) → k < l.edge-index → IsLinked l.objects (get_or l.edges k d)
