use Rattle.path_expr.proofs.StateLaws.{none_at_all}
use Rattle.path_expr.proofs.state_sets.States.is_empty.Goals as goal

pub returns : goal.returns
returns c = none_at_all c.args.self.0
