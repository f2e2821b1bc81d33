use Rattle.std.proofs.Common.{◌≡◌, ◌+◌, ◌*◌, ◌≤◌, ◌++◌, length, drop}
use Rattle.updates.specs.Types.{NEXT_NUMBER}
use Rattle.updates.specs.Effects.{targets}
use Rattle.updates.specs.inside.Stamps.{stamped_objects}
use Rattle.updates.proofs.stamps.copied_objects.Given as goal

abbrev pub invariant-rows : goal.invariant-rows
invariant-rows l = record {
  made : l.objects ++ stamped_objects l.base l.layout.values (targets (drop l._row-index l.rows))
      ≡ stamped_objects l.next l.layout.values (targets l.rows);
  room : l.base + length (drop l._row-index l.rows) * length l.layout.values ≤ NEXT_NUMBER;
}
