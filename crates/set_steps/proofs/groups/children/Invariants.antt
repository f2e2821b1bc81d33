use Rattle.std.proofs.Common.{◌≡◌, map, take}
use Rattle.set_steps.proofs.groups.children.Given as goal

abbrev pub invariant-arcs : goal.invariant-arcs
invariant-arcs l = l.oids ≡ map (λ arc. arc.1) (take l.arc-index l.fn.arcs)
