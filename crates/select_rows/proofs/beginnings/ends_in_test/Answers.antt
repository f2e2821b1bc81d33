use Rattle.std.proofs.Common.{◌≡◌, ◌-◌, length, slice_get, Some, option_copied, sym, ap, ◌∙◌}
use Rattle.select_rows.proofs.SomeReadLaws.{test_among}
use Rattle.select_rows.proofs.beginnings.ends_in_test.Goals as goal

pub returns : goal.returns
returns c = λ yes guided.
    let is : slice_get c.args.steps.now (length c.args.steps.now - 1) ≡ Some c.in-Some.last.now = sym c.last.ensures.value ∙ ap option_copied c.in-Some.is in
    test_among c.args.steps.now (length c.args.steps.now - 1) c.in-Some.last.now is (c.is_test.ensures yes) guided
