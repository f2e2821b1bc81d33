use Rattle.guide_query.proofs.OnePathLines.{one_sample}
use Rattle.guide_query.proofs.laws.one_sample.Goals as goal

pub returns : goal.returns
returns c = one_sample
