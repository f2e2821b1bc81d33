use Rattle.one_index.proofs.OneBlocks.{one_list}
use Rattle.one_index.proofs.laws.one_list_of_blocks.Goals as goal

pub returns : goal.returns
returns c = one_list
