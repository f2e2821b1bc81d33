use Rattle.path_expr.proofs.StepLaws.{accepted_by_stepping}
use Rattle.path_expr.proofs.laws.stepping_accepts.Goals as goal

pub returns : goal.returns
returns c = accepted_by_stepping
