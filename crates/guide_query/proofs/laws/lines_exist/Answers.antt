use Rattle.guide_query.proofs.SomeLines.{lines_exist}
use Rattle.guide_query.proofs.laws.lines_exist.Goals as goal

pub returns : goal.returns
returns c = lines_exist
