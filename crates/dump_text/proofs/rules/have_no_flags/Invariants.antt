use Rattle.std.proofs.Common.{◌≢◌, Bool, ℕ, ◌<◌, get_or}
use Rattle.dump_text.specs.Types.{Oid, Value, Flag}
use Rattle.dump_text.proofs.rules.have_no_flags.Given as goal

abbrev pub invariant-objects : goal.invariant-objects
invariant-objects l = (k : ℕ) (d : Oid × Value) → k < l.object-index → (flag : Bool) → (get_or l.objects k d).1 ≢ Flag flag
