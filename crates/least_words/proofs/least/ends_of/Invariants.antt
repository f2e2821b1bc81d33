use Rattle.std.proofs.Common.{take}
use Rattle.indexmap.specs.IndexMap.{get}
use Rattle.least_words.specs.Types.{Oid}
use Rattle.least_words.specs.MachineWords.{same_oid}
use Rattle.least_words.specs.inside.Groups.{AreEnds}
use Rattle.least_words.proofs.least.ends_of.Given as goal

abbrev pub invariant-places : goal.invariant-places
invariant-places l = (oid : Oid) → AreEnds (take l.place-index l.places) oid (get same_oid l.ends oid)
