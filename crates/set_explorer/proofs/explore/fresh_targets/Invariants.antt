use Rattle.std.proofs.Common.{◌≡◌, ◌++◌, map}
use Rattle.set_explorer.specs.Types.{Fresh}
use Rattle.set_explorer.proofs.explore.fresh_targets.Given as goal

abbrev pub invariant-row : goal.invariant-row
invariant-row l = record {
  targets : l.targets.items ≡ map (λ step. (step.0, Fresh step.1)) l.yielded;
  whole : l.yielded ++ l.label-iterator.rest.items ≡ l.fn.row.items;
}
