use Rattle.std.proofs.Common.{◌≡◌, ℕ, Option, None, length, replicate, subst, arith}
use Rattle.block_haste.proofs.starting.marks_and_lists.Goals as goal

pub returns-in-Ok-clause-marks : goal.returns-in-Ok-clause-marks
returns-in-Ok-clause-marks c =
    let count : c.len.result ≡ length c.args.first.now.numbers.items = omega (arith, c.len.ensures, c.args.first.now.numbers.ok.0) in
    subst (λ (n : ℕ). c.in_ok-marks.marks.items ≡ replicate n None) count c.in_ok-marks.ensures
