use Rattle.guide_laws.proofs.SomeGuide.{ordered_guides_exist}
use Rattle.guide_laws.proofs.laws.ordered_guides_exist.Goals as goal

pub returns : goal.returns
returns c = ordered_guides_exist
