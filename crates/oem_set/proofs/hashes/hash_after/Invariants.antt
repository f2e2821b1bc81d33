use Rattle.std.proofs.Common.{◌≡◌, ◌++◌, List, take}
use Rattle.oem_set.specs.Types.{Oid}
use Rattle.oem_set.specs.Sets.{hash_of}
use Rattle.oem_set.proofs.hashes.hash_after.Given as goal

abbrev pub invariant-oids : goal.invariant-oids
invariant-oids l = (before : List Oid) → l.front ≡ hash_of before → l.hash ≡ hash_of (before ++ take l.oid-index l.oids)
