use Rattle.std.proofs.Common.{◌-◌, ℕ, ap, sym, subst, arith}
use Rattle.indexmap.specs.IndexMap.{get}
use Rattle.doem_history.specs.Types.{Edge}
use Rattle.doem_history.specs.Histories.{KeptRuns}
use Rattle.doem_history.specs.Plans.{IsOpen}
use Rattle.doem_history.specs.inside.Chains.{edge_eq}
use Rattle.doem_history.proofs.MarkLaws.{kept_as}
use Rattle.doem_history.proofs.NewestLaws.{newest_open}
use Rattle.doem_history.proofs.edge_timeline.EdgeTimeline.open_place.Goals as goal

pub overflow_sub-result : goal.overflow_sub-result
overflow_sub-result c =
    let runs_are = ap (λ (t : KeptRuns _). t.runs) c.self.view_is in
    let moments_are = ap (λ (t : KeptRuns _). t.moments) c.self.view_is in
    let going = subst (λ (t : KeptRuns Edge). (place : ℕ) × IsOpen t.runs place c.args.edge) (sym c.self.view_is) c.requires.going in
    let newest = newest_open c.self.inside.timeline.runs c.self.inside.timeline.moments (get edge_eq c.self.inside.newest) c.args.edge (kept_as _ _ _ _ runs_are moments_are c.requires.kept) c.self.invariant going in
    omega (arith, newest.0, c.link_of.ensures)

pub returns : goal.returns
returns c =
    let runs_are = ap (λ (t : KeptRuns _). t.runs) c.self.view_is in
    let moments_are = ap (λ (t : KeptRuns _). t.moments) c.self.view_is in
    let going = subst (λ (t : KeptRuns Edge). (place : ℕ) × IsOpen t.runs place c.args.edge) (sym c.self.view_is) c.requires.going in
    let newest = newest_open c.self.inside.timeline.runs c.self.inside.timeline.moments (get edge_eq c.self.inside.newest) c.args.edge (kept_as _ _ _ _ runs_are moments_are c.requires.kept) c.self.invariant going in
    subst (λ (t : KeptRuns Edge). IsOpen t.runs (c.link_of.result - 1) c.args.edge) c.self.view_is
    (subst (λ n. IsOpen c.self.inside.timeline.runs (n - 1) c.args.edge) (sym c.link_of.ensures) newest.1)
