use Rattle.std.proofs.Common.{◌≡◌, take}
use Rattle.std.specs.List.{list_all}
use Rattle.lorel_lex.specs.inside.Scanning.{is_plain}
use Rattle.lorel_lex.proofs.scan.are_plain.Given as goal

abbrev pub invariant-bytes : goal.invariant-bytes
invariant-bytes l = l.all ≡ list_all is_plain (take l.byte-index l.bytes)
