use Rattle.std.proofs.Common.{◌≡◌, true, take}
use Rattle.std.specs.List.{list_all}
use Rattle.lorel_lex.specs.inside.Scanning.{is_plain}
use Rattle.lorel_lex.proofs.scan.plain_run.Given as goal

abbrev pub invariant-bytes : goal.invariant-bytes
invariant-bytes l = list_all is_plain (take l.i l.bytes) ≡ true
