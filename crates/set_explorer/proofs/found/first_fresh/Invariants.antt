use Rattle.std.proofs.Common.{All, take}
use Rattle.set_explorer.specs.inside.Founds.{IsFreshAt}
use Rattle.set_explorer.proofs.found.first_fresh.Given as goal

abbrev pub invariant-listed : goal.invariant-listed
invariant-listed l = All (λ node. ¬ IsFreshAt l.nodes node l.set) (take l.node-index l.fn.listed)
