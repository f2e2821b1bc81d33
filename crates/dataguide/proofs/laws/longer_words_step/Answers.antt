use Rattle.set_explorer.proofs.TargetSteps.{longer_words_step}
use Rattle.dataguide.proofs.laws.longer_words_step.Goals as goal

pub returns : goal.returns
returns c = longer_words_step
