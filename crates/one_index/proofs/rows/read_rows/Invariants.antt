use Rattle.std.proofs.Common.{◌+◌, ◌≤◌, List, take}
use Rattle.std.specs.List.{sum_by}
use Rattle.read_costs.specs.ReadCosts.{in_reads}
use Rattle.one_index.specs.Types.{Edge}
use Rattle.one_index.specs.inside.Parted.{AreSameEdges}
use Rattle.one_index.specs.inside.Rows.{AreRows}
use Rattle.one_index.proofs.rows.read_rows.Given as goal

abbrev pub invariant-objects : goal.invariant-objects
invariant-objects g l = record {
  rows : AreRows (g.K.Links.edges l.links) l.objects (take l.oid-index l.objects) l.rows.items;
  steps : (edges : List Edge) → AreSameEdges (g.K.Links.edges l.links) edges
      → l.steps ≤ l.fn.steps + sum_by (in_reads edges) (take l.oid-index l.objects);
}
