use Rattle.std.proofs.Common.{◌≡◌, false, Some, take}
use Rattle.lorel_lex.specs.inside.Lexing.{escaped_after}
use Rattle.lorel_lex.proofs.quoted_texts.quote_behind_escapes.Given as goal

abbrev pub invariant-bytes : goal.invariant-bytes
invariant-bytes l = escaped_after l.quote false (take l.i l.bytes) ≡ Some l.escaped
