use Rattle.std.proofs.Common.{ℕ, ◌<◌, get_or}
use Rattle.lore_base.specs.Databases.{IsSized}
use Rattle.dump_text.specs.Types.{Oid, Value}
use Rattle.dump_text.proofs.rules.are_sized.Given as goal

abbrev pub invariant-objects : goal.invariant-objects
invariant-objects l = (k : ℕ) (d : Oid × Value) → k < l.object-index → IsSized (get_or l.objects k d).1
