use Rattle.path_expr.proofs.StateLaws.{bit_of_first}
use Rattle.path_expr.proofs.state_sets.States.without.Goals as goal

pub returns : goal.returns
returns c = bit_of_first c.args.self.0 c.args.other.0
