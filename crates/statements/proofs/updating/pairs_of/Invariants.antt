use Rattle.std.proofs.Common.{◌≡◌, List, map, take}
use Rattle.statements.specs.Types.{Oid}
use Rattle.statements.specs.Effects.{object_cells, pair_of}
use Rattle.statements.proofs.updating.pairs_of.Given as goal

abbrev pub invariant-rows : goal.invariant-rows
invariant-rows l = (rows : List (List Oid)) → l.row-items ≡ map object_cells rows → l.pairs ≡ map pair_of (take l.row-index rows)
