use Rattle.block_lines.proofs.BlockLineLaws.{one_list_of_lines}
use Rattle.block_lines.proofs.laws.one_list_of_lines.Goals as goal

pub returns : goal.returns
returns c = one_list_of_lines
