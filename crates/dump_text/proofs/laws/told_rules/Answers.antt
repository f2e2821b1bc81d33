use Rattle.dump_text.proofs.ToldLaws.{dump_or_bad}
use Rattle.dump_text.proofs.laws.told_rules.Goals as goal

pub returns : goal.returns
returns c = dump_or_bad
