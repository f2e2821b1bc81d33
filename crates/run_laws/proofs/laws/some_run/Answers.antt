use Rattle.reply_laws.proofs.StandLaws.{performs_always}
use Rattle.run_laws.proofs.SomeRunLaws.{some_run}
use Rattle.run_laws.proofs.ParsedLaws.{some_statement}
use Rattle.run_laws.proofs.laws.some_run.Goals as goal

pub returns : goal.returns
returns c = some_run some_statement performs_always
