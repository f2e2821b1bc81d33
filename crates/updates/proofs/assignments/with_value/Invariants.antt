use Rattle.std.proofs.Common.{◌≡◌, ◌++◌, map, drop}
use Rattle.updates.specs.Effects.{targets}
use Rattle.updates.proofs.assignments.with_value.Given as goal

abbrev pub invariant-rows : goal.invariant-rows
invariant-rows l =
    l.values ++ map (λ oid. (oid, l.value)) (targets (drop l.target-index l.rows)) ≡ map (λ oid. (oid, l.value)) (targets l.rows)
