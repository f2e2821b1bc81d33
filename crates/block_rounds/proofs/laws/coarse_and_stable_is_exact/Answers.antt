use Rattle.block_rounds.proofs.BlockLaws.{AreBlocks-exact}
use Rattle.block_rounds.proofs.laws.coarse_and_stable_is_exact.Goals as goal

pub returns : goal.returns
returns c rows kinds numbers within coarse stable = AreBlocks-exact rows kinds numbers within coarse stable
