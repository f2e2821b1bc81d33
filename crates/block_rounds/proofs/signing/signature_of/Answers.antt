use Rattle.std.proofs.Common.{◌≡◌, ap, ◌∙◌, map, take, arith}
use Rattle.std.proofs.lemmas.List.{take_all}
use Rattle.block_rounds.proofs.SignatureLaws.{IsSignature-made, same_pair, signed}
use Rattle.block_rounds.proofs.signing.signature_of.Goals as goal

pub returns : goal.returns
returns c =
    let row = c.args.row.now in
    let numbers = c.args.numbers.now in
    let whole : take c.entries.entry-index row ≡ row = take_all c.entries.entry-index row (omega arith) in
    let is : c.entries.signature ≡ map (signed numbers) row = c.entries.invariant ∙ ap (map (signed numbers)) whole in
    IsSignature-made row numbers c.entries.signature c.sort_set.new.self is c.sort_set.ensures.ascend (c.sort_set.ensures.members same_pair)
