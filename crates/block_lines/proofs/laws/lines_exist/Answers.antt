use Rattle.block_lines.proofs.BlockLineLaws.{lines_exist}
use Rattle.block_lines.proofs.laws.lines_exist.Goals as goal

pub returns : goal.returns
returns c = lines_exist
