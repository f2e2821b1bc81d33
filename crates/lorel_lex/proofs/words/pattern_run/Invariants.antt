use Rattle.std.proofs.Common.{◌≡◌, true, take}
use Rattle.std.specs.List.{list_all}
use Rattle.lorel_tokens.specs.Shapes.{is_pattern_byte}
use Rattle.lorel_lex.proofs.words.pattern_run.Given as goal

abbrev pub invariant-bytes : goal.invariant-bytes
invariant-bytes l = list_all is_pattern_byte (take l.i l.bytes) ≡ true
