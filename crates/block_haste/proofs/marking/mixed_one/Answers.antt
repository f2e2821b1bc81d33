use Rattle.std.proofs.Common.{rules}
use Rattle.block_haste.specs.inside.Marking.{mix_one}
use Rattle.block_haste.proofs.marking.mixed_one.Goals as goal

pub returns : goal.returns
unfolding mix_one
returns c = search rules
