use Rattle.std.proofs.Common.{◌≡◌, take}
use Rattle.block_rounds.specs.inside.Renumbering.{hash_of}
use Rattle.block_rounds.proofs.renumbering.hash_signature.Given as goal

abbrev pub invariant-entries : goal.invariant-entries
invariant-entries l = l.hash ≡ hash_of l.kind (take l.entry-index l.signature)
