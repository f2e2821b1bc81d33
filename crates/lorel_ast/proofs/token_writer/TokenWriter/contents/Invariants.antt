use Rattle.std.proofs.Common.{◌≡◌, ◌++◌, take}
use Rattle.std.specs.List.{flat_map}
use Rattle.lore_base.specs.Quotes.{escape}
use Rattle.lorel_ast.proofs.token_writer.TokenWriter.contents.Given as goal

abbrev pub invariant-bytes : goal.invariant-bytes
invariant-bytes l = l.self ≡ l.fn.self ++ flat_map (escape l.quote) (take l.byte-index l.text)
