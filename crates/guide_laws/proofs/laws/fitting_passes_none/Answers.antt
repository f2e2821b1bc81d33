use Rattle.guide_laws.proofs.LimitLaws.{fitting_passes_none}
use Rattle.guide_laws.proofs.laws.fitting_passes_none.Goals as goal

pub returns : goal.returns
returns c = fitting_passes_none
