use Rattle.std.proofs.Common.{take}
use Rattle.block_rounds.specs.inside.Signatures.{AreSignatures}
use Rattle.block_rounds.proofs.signing.signatures.Given as goal

abbrev pub invariant-rows : goal.invariant-rows
invariant-rows l = AreSignatures (take l.row-index l.rows) l.numbers l.signed.items
