use Rattle.std.proofs.Common.{take}
use Rattle.one_index.specs.inside.Kinds.{AreKinds}
use Rattle.one_index.proofs.kinds.kinds_of.Given as goal

abbrev pub invariant-named : goal.invariant-named
invariant-named l = AreKinds l.objects (take l.oid-index l.named) l.kinds.items
