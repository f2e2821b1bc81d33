use Rattle.guide_query.proofs.SomePathLines.{browsing_exists}
use Rattle.guide_query.proofs.laws.browsing_exists.Goals as goal

pub returns : goal.returns
returns c = browsing_exists
