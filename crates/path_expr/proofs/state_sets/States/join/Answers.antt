use Rattle.path_expr.proofs.StateLaws.{bit_of_either}
use Rattle.path_expr.proofs.state_sets.States.join.Goals as goal

pub returns : goal.returns
returns c = bit_of_either c.args.self.0 c.args.other.0
