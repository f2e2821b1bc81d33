use Rattle.std.proofs.Common.{◌≡◌, ◌≤◌, ◌-◌, true, length, take}
use Rattle.std.specs.List.{list_all}
use Rattle.lorel_lex.specs.inside.Scanning.{is_plain}
use Rattle.lorel_lex.proofs.scan.plain_eights.Given as goal

abbrev pub invariant-eights : goal.invariant-eights
invariant-eights l = record {
  within : l.at ≤ length l.bytes;
  passed : list_all is_plain (take l.at l.bytes) ≡ true;
}

abbrev pub decreases-eights : goal.decreases-eights
decreases-eights l = length l.bytes - l.at
