use Rattle.lorel_lex.proofs.ScanLaws.{some_cut}
use Rattle.lorel_lex.proofs.laws.some_cut.Goals as goal

pub returns : goal.returns
returns c = some_cut
