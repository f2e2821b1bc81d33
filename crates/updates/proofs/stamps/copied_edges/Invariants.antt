use Rattle.std.proofs.Common.{◌≡◌, ◌+◌, ◌*◌, ◌≤◌, ◌++◌, length, drop}
use Rattle.updates.specs.Types.{NEXT_NUMBER}
use Rattle.updates.specs.Effects.{targets}
use Rattle.updates.specs.inside.Stamps.{stamped_edges}
use Rattle.updates.proofs.stamps.copied_edges.Given as goal

abbrev pub invariant-rows : goal.invariant-rows
invariant-rows l = record {
  made : l.edges ++ stamped_edges l.base l.size l.stamp.label l.stamp.edges (targets (drop l.target-index l.rows))
      ≡ stamped_edges l.next l.size l.stamp.label l.stamp.edges (targets l.rows);
  room : l.base + length (drop l.target-index l.rows) * l.size ≤ NEXT_NUMBER;
}
