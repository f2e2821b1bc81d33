use Rattle.std.proofs.Common.{◌≡◌}
use Rattle.std.specs.List.{AllWithin}
use Rattle.set_steps.proofs.groups.group_length.Given as goal

abbrev pub invariant-arcs : goal.invariant-arcs
invariant-arcs l = AllWithin (λ arc. arc.0.0 ≡ l.label.0) l.arcs 0 l.place
