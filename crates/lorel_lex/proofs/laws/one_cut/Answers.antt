use Rattle.lorel_lex.proofs.ScanLaws.{one_cut}
use Rattle.lorel_lex.proofs.laws.one_cut.Goals as goal

pub returns : goal.returns
returns c = one_cut
