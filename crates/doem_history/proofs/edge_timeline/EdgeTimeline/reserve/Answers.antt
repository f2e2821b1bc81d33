use Rattle.std.proofs.Common.{ap, refl, List}
use Rattle.std.specs.Map.{lookup}
use Rattle.indexmap.specs.IndexMap.{get}
use Rattle.doem_history.specs.Types.{Edge, Run}
use Rattle.doem_history.specs.inside.Chains.{edge_eq, all_facts}
use Rattle.doem_history.proofs.NewestLaws.{newest_as}
use Rattle.doem_history.proofs.edge_timeline.EdgeTimeline.reserve.Goals as goal

pub invariant_of-self : goal.invariant_of-self
invariant_of-self c = newest_as _ _ (get edge_eq c.self.inside.newest) (get edge_eq c.self.inside.newest) c.self.invariant (ap (λ (l : List (Run Edge)). all_facts l) c.reserve.ensures.same.runs) (λ edge. refl)

pub invariant_of-self-2 : goal.invariant_of-self-2
invariant_of-self-2 c = newest_as _ _ (get edge_eq c.self.inside.newest) (get edge_eq c.reserve-2.new.self) c.self.invariant (ap (λ (l : List (Run Edge)). all_facts l) c.in_ok-reserve.ensures.same.runs)
    (λ edge. ap (λ entries. lookup (edge_eq edge) entries) c.reserve-2.ensures.entries)
