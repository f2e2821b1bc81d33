use Rattle.std.proofs.Common.{All}
use Rattle.row_hints.specs.Told.{IsUnasked}
use Rattle.row_hints.proofs.told.none_asked.Given as goal

abbrev pub invariant-slots : goal.invariant-slots
invariant-slots l = All IsUnasked l.told.items
