use Rattle.std.proofs.Common.{arith}
use Rattle.std.proofs.lemmas.Bool.Decides.{nat_tests}
use Rattle.std.proofs.lemmas.Nat.Bits.{bit_at_above}
use Rattle.path_expr.proofs.state_sets.has_bit.Goals as goal

pub returns-else-place-lt128 : goal.returns-else-place-lt128
returns-else-place-lt128 c = (
  λ h. absurd (grind (arith, nat_tests)),
  λ has. absurd (omega (arith, bit_at_above c.args.bits 128 c.args.place (omega arith) (omega arith), has)),
)
