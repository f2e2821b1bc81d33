use Rattle.std.proofs.Common.{Option, sym, subst}
use Rattle.index_traits.specs.Counts.{IsCount}
use Rattle.lorel_bound.specs.Plans.{IsCandidate}
use Rattle.planner.specs.Types.{Label}
use Rattle.planner.proofs.CountLaws.{found_counted}
use Rattle.planner.proofs.counting.candidate_count.Goals as goal

pub returns-in-Some : goal.returns-in-Some
returns-in-Some g c =
    let entries = g.V.Values.entries c.args.values.now in
    subst (λ (label : Option Label). IsCount (IsCandidate entries label c.args.probe.now.op c.args.probe.now.value.now) c.probe_count.result)
    (sym c.in-Some.is)
    (found_counted entries c.in-Some.own c.args.probe.now.op c.args.probe.now.value.now c.probe_count.result c.probe_count.ensures)
