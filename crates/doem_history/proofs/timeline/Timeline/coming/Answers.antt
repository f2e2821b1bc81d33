use Rattle.std.proofs.Common.{◌↔◌, ◌≤◌, ap, sym, subst, length, List, Contains}
use Rattle.doem_history.specs.Types.{Run}
use Rattle.doem_history.specs.Histories.{KeptRuns}
use Rattle.doem_history.specs.inside.Marks.{IsComing}
use Rattle.doem_history.proofs.StretchLaws.{between_of, begun_rise, begun_within, coming_found, coming_apart, coming_once, told_sorted}
use Rattle.doem_history.proofs.timeline.Timeline.coming.Goals as goal

pub stretch-runs-requires-clause-order : goal.stretch-runs-requires-clause-order
stretch-runs-requires-clause-order g c =
    let runs_is = ap (λ (t : KeptRuns _). t.runs) c.self.view_is in
    let moments_are = ap (λ (t : KeptRuns _). t.moments) c.self.view_is in
    let b = between_of _ _ _ _ _ _ _ _ _ c.self.invariant runs_is moments_are c.requires.facts.kept c.requires.order c.requires.within c.index-first.ensures c.index-last.ensures in
    begun_rise _ _ _ _ _ _ _ _ b

pub stretch-runs-requires-clause-within : goal.stretch-runs-requires-clause-within
stretch-runs-requires-clause-within g c =
    let runs_is = ap (λ (t : KeptRuns _). t.runs) c.self.view_is in
    let moments_are = ap (λ (t : KeptRuns _). t.moments) c.self.view_is in
    let b = between_of _ _ _ _ _ _ _ _ _ c.self.invariant runs_is moments_are c.requires.facts.kept c.requires.order c.requires.within c.index-first.ensures c.index-last.ensures in
    subst (λ (l : List (Run _)). c.index-last.result.now.begun ≤ length l) (sym c.runs.ensures) (begun_within _ _ _ _ _ _ _ _ b)

pub returns-clause-exact : goal.returns-clause-exact
returns-clause-exact g c =
    let runs_is = ap (λ (t : KeptRuns _). t.runs) c.self.view_is in
    let moments_are = ap (λ (t : KeptRuns _). t.moments) c.self.view_is in
    let b = between_of _ _ _ _ _ _ _ _ _ c.self.invariant runs_is moments_are c.requires.facts.kept c.requires.order c.requires.within c.index-first.ensures c.index-last.ensures in
    told_sorted (IsComing c.args.self.now.runs c.args.before c.args.after) c.in_ok-facts.facts.items c.sort_facts.new.facts.items c.sort_facts.ensures.members
    (λ fact. subst (λ (l : List (Run _)). Contains c.in_ok-facts.facts.items fact ↔ IsComing l c.args.before c.args.after fact) runs_is
    (coming_found _ _ _ _ _ _ _ _ b c.in_ok-facts.facts.items c.runs.result.now c.stretch-runs.result.now c.runs.ensures c.stretch-runs.ensures c.in_ok-facts.ensures fact))

pub returns-clause-ascend : goal.returns-clause-ascend
returns-clause-ascend g c =
    let runs_is = ap (λ (t : KeptRuns _). t.runs) c.self.view_is in
    let moments_are = ap (λ (t : KeptRuns _). t.moments) c.self.view_is in
    let b = between_of _ _ _ _ _ _ _ _ _ c.self.invariant runs_is moments_are c.requires.facts.kept c.requires.order c.requires.within c.index-first.ensures c.index-last.ensures in
    c.sort_facts.ensures.ascend
    (coming_apart _ _ _ _ _ _ _ _ b c.in_ok-facts.facts.items c.runs.result.now c.stretch-runs.result.now c.runs.ensures c.stretch-runs.ensures c.in_ok-facts.ensures)
    (coming_once g.F.Fact.order _ _ c.requires.facts c.args.before c.args.after c.requires.order c.requires.within c.in_ok-facts.facts.items
    (λ fact. subst (λ (l : List (Run _)). Contains c.in_ok-facts.facts.items fact ↔ IsComing l c.args.before c.args.after fact) runs_is
    (coming_found _ _ _ _ _ _ _ _ b c.in_ok-facts.facts.items c.runs.result.now c.stretch-runs.result.now c.runs.ensures c.stretch-runs.ensures c.in_ok-facts.ensures fact)))
