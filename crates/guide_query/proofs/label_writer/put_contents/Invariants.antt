use Rattle.std.proofs.Common.{◌≡◌, ◌++◌, take}
use Rattle.std.specs.List.{flat_map}
use Rattle.lore_base.specs.Quotes.{escape}
use Rattle.guide_query.proofs.label_writer.put_contents.Given as goal

abbrev pub invariant-bytes : goal.invariant-bytes
invariant-bytes l = l.line.items ≡ l.fn.line.items ++ flat_map (escape 39) (take l.byte-index l.label)
