use Rattle.std.proofs.Common.{take}
use Rattle.set_explorer.specs.inside.Losses.{AreRest}
use Rattle.set_explorer.proofs.losses.rest_of.Given as goal

abbrev pub invariant-steps : goal.invariant-steps
invariant-steps l = AreRest (take l.step-index l.gone) l.back l.rest.items
