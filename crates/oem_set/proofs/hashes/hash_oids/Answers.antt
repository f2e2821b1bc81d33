use Rattle.std.proofs.Common.{[], refl}
use Rattle.oem_set.specs.Sets.{hash_of}
use Rattle.oem_set.proofs.hashes.hash_oids.Goals as goal

pub returns : goal.returns
unfolding hash_of
returns c = c.hash_after.ensures [] refl
