use Rattle.std.proofs.Common.{◌≡◌, ◌<◌, [], ◌∷◌, ◌++◌, length, map, get_or, sym, ap, ◌∙◌, arith}
use Rattle.std.proofs.lemmas.List.{take_all}
use Rattle.std.proofs.lemmas.Option.{get_or_from_slice_get}
use Rattle.list_laws.proofs.PartLaws.{map_more_read}
use Rattle.one_index.specs.declared.blocks.Block.{Block}
use Rattle.one_index.proofs.FillLaws.{some_at}
use Rattle.block_lines.specs.BlockLines.{block_line}
use Rattle.block_lines.proofs.lines.lines_of.Goals as goal

pub numbers-preserved : goal.numbers-preserved
numbers-preserved c =
    let blocks = c.args.blocks.now in
    let number = c.numbers.number in
    let low : number < length blocks = omega (arith, c.numbers-test.true, c.len-number-end.ensures) in
    let found = some_at blocks number low in
    let block : Block = found.0 in
    let here : block ≡ get_or blocks number block = sym (get_or_from_slice_get blocks number block block found.1) in
    let line = c.in_ok-line_at.ensures block found.1 in
    c.in_ok-push.ensures.ok ∙ (λ i. c.numbers.invariant i ++ line i ∷ []) ∙ sym (map_more_read block_line blocks number block low here)

pub returns : goal.returns
returns c =
    c.numbers.invariant
    ∙ ap (map block_line) (take_all c.numbers.number c.args.blocks.now (omega (arith, c.numbers-test.false, c.len-number-end.ensures)))
