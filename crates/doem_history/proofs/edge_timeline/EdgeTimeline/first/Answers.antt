use Rattle.std.proofs.Common.{◌∙◌, ap, sym, refl, List, []}
use Rattle.std.specs.Map.{lookup}
use Rattle.indexmap.specs.IndexMap.{get}
use Rattle.doem_history.specs.Types.{Edge, Run}
use Rattle.doem_history.specs.inside.Chains.{edge_eq, all_facts}
use Rattle.doem_history.proofs.NewestLaws.{newest_none, newest_as, facts-begun}
use Rattle.doem_history.proofs.edge_timeline.EdgeTimeline.first.Goals as goal

pub invariant_of-result : goal.invariant_of-result
invariant_of-result c =
    let empty : List Edge = [] in
    let noted = c.put_newest.ensures.newest empty refl (newest_none (get edge_eq c.reserve.new.self) (λ edge. ap (λ entries. lookup (edge_eq edge) entries) (c.reserve.ensures.entries ∙ c.new-newest.ensures.empty))) in
    newest_as _ _ (get edge_eq c.put_newest.new.newest) (get edge_eq c.put_newest.new.newest) noted (ap (λ (l : List (Run Edge)). all_facts l) c.in_ok-timeline.ensures.runs ∙ facts-begun 0 c.args.edges.items ∙ sym c.as_slice.ensures.value) (λ edge. refl)
