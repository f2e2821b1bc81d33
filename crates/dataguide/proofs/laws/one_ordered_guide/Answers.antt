use Rattle.dataguide.proofs.OneGuide.{one_ordered_guide}
use Rattle.dataguide.proofs.laws.one_ordered_guide.Goals as goal

pub returns : goal.returns
returns c = one_ordered_guide
