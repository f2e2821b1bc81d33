use Rattle.guide_laws.proofs.LimitLaws.{one_limit_is_passed}
use Rattle.guide_laws.proofs.laws.one_limit_is_passed.Goals as goal

pub returns : goal.returns
returns c = one_limit_is_passed
