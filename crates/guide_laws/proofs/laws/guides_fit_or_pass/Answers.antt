use Rattle.guide_laws.proofs.FitLaws.{guides_fit_or_pass}
use Rattle.guide_laws.proofs.laws.guides_fit_or_pass.Goals as goal

pub returns : goal.returns
returns c = guides_fit_or_pass
