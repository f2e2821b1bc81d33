use Rattle.std.proofs.Common.{◌-◌, length}
use Rattle.lorel_lex.proofs.ScanLaws.{ScansTo}
use Rattle.lorel_lex.proofs.scan.scan.Given as goal

abbrev pub invariant-bytes : goal.invariant-bytes
invariant-bytes l = ScansTo l.fn.from l.state l.bytes l.at

abbrev pub decreases-bytes : goal.decreases-bytes
decreases-bytes l = length l.bytes - l.at
