use Rattle.std.proofs.Common.{◌≡◌, ◌∙◌, ◌++◌, ℕ, ap, sym, length, List, arith}
use Rattle.doem_history.specs.Types.{Run}
use Rattle.doem_history.specs.Histories.{KeptRuns}
use Rattle.doem_history.specs.Plans.{PlannedRuns}
use Rattle.doem_history.proofs.MarkLaws.{places_within, ending_as, kept_as, marks_then, marked_as}
use Rattle.doem_history.proofs.timeline.Timeline.append.Goals as goal

pub move_on-requires-clause-places : goal.move_on-requires-clause-places
move_on-requires-clause-places g c =
    let runs_is = ap (λ (t : KeptRuns _). t.runs) c.self.view_is in
    let places_is = c.as_slice.ensures.value ∙ ap (λ (p : PlannedRuns _). p.places) c.plan.view_is in
    let ending = ending_as _ _ _ _ runs_is places_is c.requires.ending in
    places_within _ _ _ ending.1

pub invariant_of-self : goal.invariant_of-self
invariant_of-self g c =
    let runs_is = ap (λ (t : KeptRuns _). t.runs) c.self.view_is in
    let places_is = c.as_slice.ensures.value ∙ ap (λ (p : PlannedRuns _). p.places) c.plan.view_is in
    let ending = ending_as _ _ _ _ runs_is places_is c.requires.ending in
    let long : length c.self.inside.marks.items ≡ c.len-moment.result = omega (arith, c.len-moment.ensures, c.self.inside.marks.ok.0) in
    let moments_are = sym long ∙ ap (λ (t : KeptRuns _). t.moments) c.self.view_is in
    let kept = kept_as _ _ _ _ runs_is moments_are c.requires.kept in
    let over_is : c.extend_from_slice.new.self.items ≡ c.self.inside.over.items ++ c.as_slice.result.now = c.in-Ok.ensures.items
    ∙ ap (λ (l : List ℕ). c.self.inside.over.items ++ l) (c.as_slice-2.ensures.value ∙ sym c.as_slice.ensures.value) in
    let ended_is = ap (λ (l : List ℕ). length l) over_is in
    marked_as _ _ _ _ _ _
    (marks_then c.self.inside.chains.runs c.self.inside.over.items c.self.inside.marks.items ending.0 c.plan.inside.come.items c.as_slice.result.now c.len-moment.result
    long kept c.self.invariant ending.1 _ (ap (λ (l : List (Run _)). length l) (c.runs.ensures ∙ c.move_on.ensures))
    (omega (arith, c.len.ensures, c.extend_from_slice.new.self.ok.0, ended_is)))
    c.move_on.ensures over_is c.push_reserved.ensures.items
