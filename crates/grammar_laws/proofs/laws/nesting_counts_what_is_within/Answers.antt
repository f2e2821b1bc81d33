use Rattle.grammar_laws.proofs.NestingLaws.{counts_within}
use Rattle.grammar_laws.proofs.laws.nesting_counts_what_is_within.Goals as goal

pub returns : goal.returns
returns c = counts_within
