use Rattle.std.proofs.Common.{take}
use Rattle.lorel_lex.specs.Gaps.{IsOnOneLine}
use Rattle.lorel_lex.proofs.gaps.line_end.Given as goal

abbrev pub invariant-bytes : goal.invariant-bytes
invariant-bytes l = IsOnOneLine (take l.i l.bytes)
