use Rattle.guide_laws.proofs.OrderedSets.{ordered_sets_exist}
use Rattle.guide_laws.proofs.laws.ordered_sets_exist.Goals as goal

pub returns : goal.returns
returns c = ordered_sets_exist
