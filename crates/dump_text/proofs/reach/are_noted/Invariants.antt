use Rattle.std.proofs.Common.{ℕ, ◌<◌, get_or}
use Rattle.dump_text.specs.Types.{Oid, Value}
use Rattle.dump_text.specs.inside.Noted.{IsNoted}
use Rattle.dump_text.proofs.reach.are_noted.Given as goal

abbrev pub invariant-objects : goal.invariant-objects
invariant-objects l = (k : ℕ) (d : Oid × Value) → k < l.object-index → IsNoted l.noted l.first.0 (get_or l.objects k d).0.0
