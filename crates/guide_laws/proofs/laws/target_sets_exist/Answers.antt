use Rattle.guide_laws.proofs.TargetSetLaws.{target_sets_exist}
use Rattle.guide_laws.proofs.laws.target_sets_exist.Goals as goal

pub returns : goal.returns
returns c = target_sets_exist
