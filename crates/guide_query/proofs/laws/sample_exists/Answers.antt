use Rattle.guide_query.proofs.SomePathLines.{sample_exists}
use Rattle.guide_query.proofs.laws.sample_exists.Goals as goal

pub returns : goal.returns
returns c = sample_exists
