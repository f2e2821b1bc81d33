use Rattle.path_expr.proofs.StateLaws.{bit_of_both}
use Rattle.path_expr.proofs.state_sets.States.meet.Goals as goal

pub returns : goal.returns
returns c = bit_of_both c.args.self.0 c.args.other.0
