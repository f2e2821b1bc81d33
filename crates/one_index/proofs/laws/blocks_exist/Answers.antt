use Rattle.one_index.proofs.SomeBlocks.{blocks_exist}
use Rattle.one_index.proofs.laws.blocks_exist.Goals as goal

pub returns : goal.returns
returns c = blocks_exist
