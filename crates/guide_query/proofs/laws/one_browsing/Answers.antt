use Rattle.guide_query.proofs.OnePathLines.{one_browsing}
use Rattle.guide_query.proofs.laws.one_browsing.Goals as goal

pub returns : goal.returns
returns c = one_browsing
