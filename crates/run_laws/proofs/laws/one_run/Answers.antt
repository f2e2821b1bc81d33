use Rattle.reply_laws.proofs.OneStateLaws.{one_performance}
use Rattle.run_laws.proofs.ParsedLaws.{one_statement}
use Rattle.run_laws.proofs.MeaningLaws.{one_run}
use Rattle.run_laws.proofs.laws.one_run.Goals as goal

pub returns : goal.returns
returns c = one_run one_statement one_performance
