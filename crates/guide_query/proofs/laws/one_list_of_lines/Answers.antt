use Rattle.guide_query.proofs.OneListOfLines.{one_list_of_lines}
use Rattle.guide_query.proofs.laws.one_list_of_lines.Goals as goal

pub returns : goal.returns
returns c = one_list_of_lines
