use Rattle.std.proofs.Common.{arith}
use Rattle.select_hints.proofs.counted.are_few.Goals as goal

pub returns : goal.returns
returns c = λ yes. omega (arith, c.leaves_of_cond-count.ensures, c.if-count.false)
