use Rattle.std.proofs.Common.{◌∙◌, ◌++◌, ap, sym, refl, List}
use Rattle.std.proofs.lemmas.List.{length-map}
use Rattle.doem_history.specs.Types.{Edge, Run}
use Rattle.doem_history.specs.Histories.{KeptRuns}
use Rattle.doem_history.specs.Plans.{PlannedRuns}
use Rattle.indexmap.specs.IndexMap.{get}
use Rattle.doem_history.specs.inside.Chains.{edge_eq, all_facts}
use Rattle.doem_history.proofs.MarkLaws.{ending_as, kept_as}
use Rattle.doem_history.proofs.NewestLaws.{newest_as, facts-moved_on}
use Rattle.doem_history.proofs.edge_timeline.EdgeTimeline.append.Goals as goal

pub append-requires-clause-kept : goal.append-requires-clause-kept
append-requires-clause-kept c =
    kept_as _ _ _ _ (ap (λ (t : KeptRuns _). t.runs) c.self.view_is) (ap (λ (t : KeptRuns _). t.moments) c.self.view_is) c.requires.kept

pub append-requires-clause-ending : goal.append-requires-clause-ending
append-requires-clause-ending c =
    ending_as _ _ _ _ (ap (λ (t : KeptRuns _). t.runs) c.self.view_is) refl c.requires.ending

pub invariant_of-self : goal.invariant_of-self
invariant_of-self c =
    let runs = c.self.inside.timeline.runs in
    let long = c.count-count.ensures in
    let noted = c.put_newest.ensures.newest (all_facts runs) (length-map runs (λ (run : Run Edge). run.fact) ∙ sym long) c.self.invariant in
    let come_is = c.as_slice.ensures.value ∙ ap (λ (p : PlannedRuns Edge). p.come) c.plan.view_is in
    let told = facts-moved_on c.self.inside.timeline.moments c.args.plan.places c.args.plan.come runs in
    newest_as _ _ (get edge_eq c.put_newest.new.newest) (get edge_eq c.put_newest.new.newest) noted
    (ap (λ (l : List (Run Edge)). all_facts l) c.append.ensures.runs ∙ told ∙ ap (λ (l : List Edge). all_facts runs ++ l) (sym come_is)) (λ edge. refl)
