use Rattle.std.proofs.Common.{refl}
use Rattle.plan_ops.proofs.narrowing.fill_or_lend.Goals as goal

pub returns-in-Some : goal.returns-in-Some
returns-in-Some c = rw c.in-Some.is (refl, refl)

pub returns-in-None : goal.returns-in-None
returns-in-None c = rw c.in-None.is (refl, refl)
