use Rattle.std.proofs.Common.{ℕ, ◌<◌, get_or, Contains}
use Rattle.dump_text.specs.Types.{Oid, Value}
use Rattle.dump_text.proofs.reach.are_among.Given as goal

abbrev pub invariant-objects : goal.invariant-objects
invariant-objects l = (k : ℕ) (d : Oid × Value) → k < l.object-index → Contains l.oids (get_or l.objects k d).0
