use Rattle.std.proofs.Common.{◌<◌, ◌≤◌, length, arith}
use Rattle.std.proofs.lemmas.List.{length-map}
use Rattle.lorel_trees.specs.Trees.{select_tree}
use Rattle.lorel_bind.specs.Types.{RANGES}
use Rattle.lorel_bound.specs.Bound.{bound_tree}
use Rattle.lorel_bind.specs.Refusals.{IsRefusedBy}
use Rattle.lorel_ranges.specs.Views.{range_of, ranges_of}
use Rattle.lorel_bind.proofs.RunLaws.{runs}
use Rattle.lorel_bind.proofs.ReadyLaws.{passed_on, starts_somewhere, accepted, too_many_ranges}
use Rattle.lorel_bind.proofs.binding.bind.Goals as goal

pub returns-then-len-gt-RANGES-clause-refused : goal.returns-then-len-gt-RANGES-clause-refused
returns-then-len-gt-RANGES-clause-refused c =
    let query = select_tree c.args.query.now in
    let passes = c.in_ok-check_text.ensures.passes query c.in_ok-text.ensures in
    let ready = c.in_ok-ranges.ensures in
    let fused = c.in_ok-ranges.ranges.fused in
    let long = length-map fused.items range_of in
    let many : RANGES < length (ranges_of fused.items) = omega (arith, long, c.len.ensures, fused.ok.0) in
    too_many_ranges c.args.names.now query ready.ranges (ranges_of fused.items) passes ready.made ready.fuses many

pub bound_select-requires-clause-somewhere : goal.bound_select-requires-clause-somewhere
bound_select-requires-clause-somewhere c =
    let query = select_tree c.args.query.now in
    starts_somewhere c.args.names.now query (c.in_ok-check_text.ensures.passes query c.in_ok-text.ensures)

pub returns-clause-accepted : goal.returns-clause-accepted
returns-clause-accepted c =
    let query = select_tree c.args.query.now in
    let passes = c.in_ok-check_text.ensures.passes query c.in_ok-text.ensures in
    let ready = c.in_ok-ranges.ensures in
    let fused = c.in_ok-ranges.ranges.fused in
    let long = length-map fused.items range_of in
    let few : length (ranges_of fused.items) ≤ RANGES = omega (arith, long, c.len.ensures, fused.ok.0) in
    accepted c.args.names.now query ready.ranges (ranges_of fused.items) passes ready.made ready.fuses few

pub returns-clause-runnable : goal.returns-clause-runnable
returns-clause-runnable c =
    let query = select_tree c.args.query.now in
    let passes = c.in_ok-check_text.ensures.passes query c.in_ok-text.ensures in
    let ready = c.in_ok-ranges.ensures in
    let fused = c.in_ok-ranges.ranges.fused in
    let long = length-map fused.items range_of in
    let few : length (ranges_of fused.items) ≤ RANGES = omega (arith, long, c.len.ensures, fused.ok.0) in
    runs c.args.names.now query (bound_tree c.in_ok-bound_select.field-0)
    (accepted c.args.names.now query ready.ranges (ranges_of fused.items) passes ready.made ready.fuses few) c.in_ok-bound_select.ensures

pub returns-in_err-check_text-clause-refused : goal.returns-in_err-check_text-clause-refused
returns-in_err-check_text-clause-refused c =
    let query = select_tree c.args.query.now in
    passed_on (IsRefusedBy c.args.names.now query) c.from_residual-in_err-check_text.result c.in_err-check_text.field-0.0
    (c.in_err-check_text.ensures.refused query c.in_ok-text.ensures) c.from_residual-in_err-check_text.ensures.1
