use Rattle.std.proofs.Common.{◌≡◌, ◌++◌, drop}
use Rattle.updates.specs.Effects.{links}
use Rattle.updates.proofs.links.edges_of_rows.Given as goal

abbrev pub invariant-rows : goal.invariant-rows
invariant-rows l = l.edges ++ links l.label (drop l.target-index l.rows) ≡ links l.label l.rows
