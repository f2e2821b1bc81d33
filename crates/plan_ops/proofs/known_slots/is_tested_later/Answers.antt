use Rattle.std.proofs.Common.{◌≡◌, ◌-◌, length, slice_get, Some, option_copied, sym, ap, ◌∙◌, arith}
use Rattle.plan_ops.proofs.NarrowLaws.{test_behind}
use Rattle.plan_ops.proofs.known_slots.is_tested_later.Goals as goal

pub returns : goal.returns
returns c = λ yes.
    let is : slice_get c.args.ready.now (length c.args.ready.now - 1) ≡ Some c.in-Some.last.now = sym c.last.ensures.value ∙ ap option_copied c.in-Some.is in
    test_behind c.args.ready.now c.args.at c.in-Some.last.now c.requires (λ same. omega (arith, same)) is (c.is_test.ensures yes)
