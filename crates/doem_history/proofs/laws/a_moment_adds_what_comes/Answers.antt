use Rattle.doem_history.proofs.WeightLaws.{weighs_what_comes}
use Rattle.doem_history.proofs.laws.a_moment_adds_what_comes.Goals as goal

pub returns : goal.returns
returns c earlier before after delta weight are leads = weighs_what_comes earlier before after delta are leads weight
