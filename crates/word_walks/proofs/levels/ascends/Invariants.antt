use Rattle.std.proofs.Common.{◌<◌}
use Rattle.std.specs.List.{AllAdjacentBelow}
use Rattle.word_walks.proofs.levels.ascends.Given as goal

abbrev pub invariant-places : goal.invariant-places
invariant-places l = AllAdjacentBelow (λ a b. a.0 < b.0) l.oids l.place
