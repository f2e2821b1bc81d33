use Rattle.std.proofs.Common.{◌≡◌, ◌+◌, drop}
use Rattle.std.specs.List.{prefix_len}
use Rattle.lore_base.specs.Wildcards.{goes_on}
use Rattle.lore_base.proofs.wildcards.following.Given as goal

abbrev pub invariant-bytes : goal.invariant-bytes
invariant-bytes l = record {
  counted : l.len ≡ l.byte-index;
  left : l.len + prefix_len goes_on (drop l.byte-index l.fn.bytes) ≡ prefix_len goes_on l.fn.bytes;
}
