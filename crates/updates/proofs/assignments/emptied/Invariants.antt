use Rattle.std.proofs.Common.{◌≡◌, ◌++◌, map, drop}
use Rattle.std.specs.List.{filter}
use Rattle.updates.specs.Types.{Complex}
use Rattle.updates.specs.Effects.{targets, is_atomic}
use Rattle.updates.proofs.assignments.emptied.Given as goal

abbrev pub invariant-rows : goal.invariant-rows
invariant-rows l =
    l.values ++ map (λ oid. (oid, Complex)) (filter (is_atomic l.graph.graph.objects) (targets (drop l.target-index l.rows)))
    ≡ map (λ oid. (oid, Complex)) (filter (is_atomic l.graph.graph.objects) (targets l.rows))
