use Rattle.std.proofs.Common.{◌≡◌, ap, ◌∙◌, cond}
use Rattle.block_haste.specs.inside.Marking.{mix_one, mix, mark_start}
use Rattle.block_haste.proofs.marking.mixed.Goals as goal

pub returns : goal.returns
unfolding mix
returns c =
    let start = c.started-start.ensures in
    let label = c.from-label.ensures in
    let first = c.mixed_one-first.ensures in
    let second = c.mixed_one-second.ensures in
    let third = c.mixed_one-third.ensures in
    let last = c.bit-last.ensures in
    let whole = c.mixed_one.ensures in
    cc
