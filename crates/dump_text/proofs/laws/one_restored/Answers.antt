use Rattle.dump_text.proofs.RuleLaws.{one_database}
use Rattle.dump_text.proofs.laws.one_restored.Goals as goal

pub returns : goal.returns
returns c = one_database
