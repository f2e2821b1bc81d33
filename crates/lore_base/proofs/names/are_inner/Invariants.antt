use Rattle.std.proofs.Common.{◌≡◌, true, take}
use Rattle.std.specs.List.{list_all}
use Rattle.lore_base.specs.Names.{is_word_byte}
use Rattle.lore_base.proofs.names.are_inner.Given as goal

abbrev pub invariant-bytes : goal.invariant-bytes
invariant-bytes l = list_all is_word_byte (take l.byte-index l.bytes) ≡ true
