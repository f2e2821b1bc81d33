use Rattle.std.proofs.Common.{◌+◌, List, map, subst, ap, ◌∙◌}
use Rattle.graph_search.specs.Closures.{IsClosure}
use Rattle.object_search.specs.Types.{Oid, Met}
use Rattle.object_search.specs.inside.Searches.{HasMark, HasChild, same_oid}
use Rattle.object_search.proofs.SearchLaws.{walked_in_order}
use Rattle.object_search.proofs.CostLaws.{met_cost}
use Rattle.object_search.proofs.reached.reached_from.Goals as goal

pub returns-clause-reached : goal.returns-clause-reached
returns-clause-reached g c =
    let edges = g.A.OutArcs.edges c.args.arcs.now in
    let starts = c.args.starts.now in
    let found = c.in_ok-met.met.items in
    let closure = subst (λ (s : List (Oid × Met)). IsClosure HasMark (HasChild edges) s found) (c.as_slice.ensures.value ∙ c.in_ok-places.ensures) c.in_ok-met.ensures.found in
    walked_in_order edges starts c.in_ok-oids.oids c.sort_set.new.self found closure
    (c.in_ok-oids.ensures ∙ ap (λ (l : List (Oid × Met)). map (λ place. place.0) l) c.as_slice-2.ensures.value)
    c.sort_set.ensures.ascend (c.sort_set.ensures.members same_oid)

pub returns-clause-cost : goal.returns-clause-cost
returns-clause-cost g c =
    let found = c.in_ok-met.ensures.found in
    c.in_ok-met.ensures.steps
    ∙ ap (λ n. g.C.Counter.count c.args.counter.now + n)
    (met_cost (g.A.OutArcs.cost c.args.arcs.now) c.in_ok-oids.oids c.sort_set.new.self c.in_ok-met.met.items found.marked found.apart
    (c.in_ok-oids.ensures ∙ ap (λ (l : List (Oid × Met)). map (λ place. place.0) l) c.as_slice-2.ensures.value)
    c.sort_set.ensures.ascend (c.sort_set.ensures.members same_oid))
