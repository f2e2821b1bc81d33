use Rattle.dump_text.proofs.RuleLaws.{rules_tell}
use Rattle.dump_text.proofs.laws.kept_rules.Goals as goal

pub returns : goal.returns
returns c = rules_tell
