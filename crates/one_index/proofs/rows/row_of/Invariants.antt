use Rattle.std.proofs.Common.{take}
use Rattle.one_index.specs.inside.Rows.{IsRowOf}
use Rattle.one_index.proofs.rows.row_of.Given as goal

abbrev pub invariant-edges : goal.invariant-edges
invariant-edges l = IsRowOf l.objects (take l.edge-index l.edges) l.row
