use Rattle.std.proofs.Common.{arith}
use Rattle.lorel_bound.specs.Bound.{bound_tree}
use Rattle.planner.specs.inside.Probes.{probe_tree}
use Rattle.planner.proofs.TakenLaws.{begins_asked, slot_within}
use Rattle.planner.proofs.choosing.choose.Goals as goal

pub candidate_count-candidates-requires-clause-op : goal.candidate_count-candidates-requires-clause-op
candidate_count-candidates-requires-clause-op g c =
    let beginning = c.in-Some.beginning in
    (begins_asked (bound_tree c.args.bound.now) beginning.named (probe_tree beginning.probe) c.in-Some.ensures.some).probed

pub candidate_count-candidates-requires-clause-value : goal.candidate_count-candidates-requires-clause-value
candidate_count-candidates-requires-clause-value g c =
    let beginning = c.in-Some.beginning in
    (begins_asked (bound_tree c.args.bound.now) beginning.named (probe_tree beginning.probe) c.in-Some.ensures.some).atomic

pub reached_count-requires-clause-within : goal.reached_count-requires-clause-within
reached_count-requires-clause-within g c =
    let beginning = c.in-Some.beginning in
    slot_within (bound_tree c.args.bound.now) beginning.named (probe_tree beginning.probe) c.requires.runnable c.in-Some.ensures.some

pub reached_count-requires-clause-few : goal.reached_count-requires-clause-few
reached_count-requires-clause-few g c = λ oids lists.
    let beginning = c.in-Some.beginning in
    omega (arith, c.requires.few beginning.named (probe_tree beginning.probe) oids c.in-Some.ensures.some lists, c.ranges.objects.fits)
