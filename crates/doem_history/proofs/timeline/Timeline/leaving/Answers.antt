use Rattle.std.proofs.Common.{◌↔◌, ◌≤◌, ℕ, ap, sym, subst, length, List, Contains}
use Rattle.doem_history.specs.Types.{Run}
use Rattle.doem_history.specs.Histories.{KeptRuns}
use Rattle.doem_history.specs.inside.Marks.{IsLeaving}
use Rattle.doem_history.proofs.StretchLaws.{between_of, ended_rise, ended_within, places_in, leaving_found, leaving_apart, leaving_once, told_sorted}
use Rattle.doem_history.proofs.timeline.Timeline.leaving.Goals as goal

pub stretch-places-requires-clause-order : goal.stretch-places-requires-clause-order
stretch-places-requires-clause-order g c =
    let runs_is = ap (λ (t : KeptRuns _). t.runs) c.self.view_is in
    let moments_are = ap (λ (t : KeptRuns _). t.moments) c.self.view_is in
    let b = between_of _ _ _ _ _ _ _ _ _ c.self.invariant runs_is moments_are c.requires.facts.kept c.requires.order c.requires.within c.index-first.ensures c.index-last.ensures in
    ended_rise _ _ _ _ _ _ _ _ b

pub stretch-places-requires-clause-within : goal.stretch-places-requires-clause-within
stretch-places-requires-clause-within g c =
    let runs_is = ap (λ (t : KeptRuns _). t.runs) c.self.view_is in
    let moments_are = ap (λ (t : KeptRuns _). t.moments) c.self.view_is in
    let b = between_of _ _ _ _ _ _ _ _ _ c.self.invariant runs_is moments_are c.requires.facts.kept c.requires.order c.requires.within c.index-first.ensures c.index-last.ensures in
    subst (λ (l : List ℕ). c.index-last.result.now.ended ≤ length l) (sym c.as_slice.ensures.value) (ended_within _ _ _ _ _ _ _ _ b)

pub held_at_places-requires : goal.held_at_places-requires
held_at_places-requires g c =
    let runs_is = ap (λ (t : KeptRuns _). t.runs) c.self.view_is in
    let moments_are = ap (λ (t : KeptRuns _). t.moments) c.self.view_is in
    let b = between_of _ _ _ _ _ _ _ _ _ c.self.invariant runs_is moments_are c.requires.facts.kept c.requires.order c.requires.within c.index-first.ensures c.index-last.ensures in
    places_in _ _ _ _ _ _ _ _ b c.runs-runs.result.now c.as_slice.result.now c.stretch-places.result.now c.runs-runs.ensures c.as_slice.ensures.value c.stretch-places.ensures

pub returns-clause-exact : goal.returns-clause-exact
returns-clause-exact g c =
    let runs_is = ap (λ (t : KeptRuns _). t.runs) c.self.view_is in
    let moments_are = ap (λ (t : KeptRuns _). t.moments) c.self.view_is in
    let b = between_of _ _ _ _ _ _ _ _ _ c.self.invariant runs_is moments_are c.requires.facts.kept c.requires.order c.requires.within c.index-first.ensures c.index-last.ensures in
    told_sorted (IsLeaving c.args.self.now.runs c.args.before c.args.after) c.in_ok-facts.facts.items c.sort_facts.new.facts.items c.sort_facts.ensures.members
    (λ fact. subst (λ (l : List (Run _)). Contains c.in_ok-facts.facts.items fact ↔ IsLeaving l c.args.before c.args.after fact) runs_is
    (leaving_found _ _ _ _ _ _ _ _ b c.runs-runs.result.now c.as_slice.result.now c.stretch-places.result.now c.runs-runs.ensures c.as_slice.ensures.value c.stretch-places.ensures
    c.in_ok-facts.facts.items c.in_ok-facts.ensures fact))

pub returns-clause-ascend : goal.returns-clause-ascend
returns-clause-ascend g c =
    let runs_is = ap (λ (t : KeptRuns _). t.runs) c.self.view_is in
    let moments_are = ap (λ (t : KeptRuns _). t.moments) c.self.view_is in
    let b = between_of _ _ _ _ _ _ _ _ _ c.self.invariant runs_is moments_are c.requires.facts.kept c.requires.order c.requires.within c.index-first.ensures c.index-last.ensures in
    c.sort_facts.ensures.ascend
    (leaving_apart _ _ _ _ _ _ _ _ b c.runs-runs.result.now c.as_slice.result.now c.stretch-places.result.now c.runs-runs.ensures c.as_slice.ensures.value c.stretch-places.ensures
    c.in_ok-facts.facts.items c.in_ok-facts.ensures)
    (leaving_once g.F.Fact.order _ _ c.requires.facts c.args.before c.args.after c.requires.order c.requires.within c.in_ok-facts.facts.items
    (λ fact. subst (λ (l : List (Run _)). Contains c.in_ok-facts.facts.items fact ↔ IsLeaving l c.args.before c.args.after fact) runs_is
    (leaving_found _ _ _ _ _ _ _ _ b c.runs-runs.result.now c.as_slice.result.now c.stretch-places.result.now c.runs-runs.ensures c.as_slice.ensures.value c.stretch-places.ensures
    c.in_ok-facts.facts.items c.in_ok-facts.ensures fact)))
