use Rattle.std.proofs.Common.{◌↔◌, List, Contains, subst, ap, ◌∙◌}
use Rattle.std.proofs.lemmas.List.{take_all}
use Rattle.object_search.proofs.EdgeLaws.{edge_same}
use Rattle.oem_reach.specs.Types.{Edge}
use Rattle.oem_reach.specs.inside.Doubts.{inner_of}
use Rattle.oem_reach.proofs.doubts.inner_edges.Goals as goal

pub returns-clause-members : goal.returns-clause-members
returns-clause-members c edge =
    subst (λ (l : List Edge). Contains c.sort_set.new.self edge ↔ Contains l edge)
    (c.edges.invariant ∙ ap (inner_of c.args.oids.now) (take_all c.edges.edge-index c.args.edges.now c.edges-test.false))
    (c.sort_set.ensures.members edge_same edge)
