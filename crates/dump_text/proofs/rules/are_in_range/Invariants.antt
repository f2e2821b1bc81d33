use Rattle.std.proofs.Common.{ℕ, ◌<◌, ◌≤◌, get_or}
use Rattle.dump_text.specs.Types.{Oid, Value}
use Rattle.dump_text.proofs.rules.are_in_range.Given as goal

abbrev pub invariant-objects : goal.invariant-objects
invariant-objects l = (k : ℕ) (d : Oid × Value) → k < l.object-index → (1 ≤ (get_or l.objects k d).0.0) × ((get_or l.objects k d).0.0 < l.next)
