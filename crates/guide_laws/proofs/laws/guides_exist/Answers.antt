use Rattle.guide_laws.proofs.SomeGuide.{guides_exist}
use Rattle.guide_laws.proofs.laws.guides_exist.Goals as goal

pub returns : goal.returns
returns c = guides_exist
