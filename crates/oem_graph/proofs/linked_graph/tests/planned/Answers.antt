use Rattle.std.proofs.Common.{[], ◌∷◌, ap, ◌∙◌, refl, arith}
use Rattle.oem_graph.specs.Types.{Edge}
use Rattle.oem_graph.specs.Plans.{PlannedGraph}
use Rattle.oem_graph.specs.inside.Samples.{numbered}
use Rattle.edge_layers.proofs.EdgeLaws.{ascend-one}
use Rattle.oem_graph.proofs.SampleLaws.{sample-plan, sample-then}
use Rattle.oem_graph.proofs.linked_graph.tests.planned.Goals as goal

pub places_by_child-requires : goal.places_by_child-requires
places_by_child-requires c =
    let come = c.in_ok-come.ensures ∙ ap (λ (e : Edge). e ∷ []) c.edge-2.ensures in
    rw (c.as_slice.ensures, come) (ascend-one (numbered 1 0 2))

pub invariant_of-result : goal.invariant_of-result
invariant_of-result c =
    let gone = c.in_ok-gone.ensures ∙ ap (λ (e : Edge). e ∷ []) c.edge.ensures in
    let come = c.in_ok-come.ensures ∙ ap (λ (e : Edge). e ∷ []) c.edge-2.ensures in
    sample-plan c.new-2.result c.new-6.result c.in_ok-gone.gone c.in_ok-come.come _ _ _ c.new-2.ensures c.new-6.ensures gone come
    (rw c.as_slice.ensures at c.in_ok-by_child.ensures) c.in_ok-keys.ensures.items (omega (arith, c.in_ok-keys.ensures.exact, c.len.ensures))

pub returns : goal.returns
returns c =
    let gone = c.in_ok-gone.ensures ∙ ap (λ (e : Edge). e ∷ []) c.edge.ensures in
    let come = c.in_ok-come.ensures ∙ ap (λ (e : Edge). e ∷ []) c.edge-2.ensures in
    let plan : PlannedGraph = record {
      names = c.new.result;
      dead = c.new-2.result;
      delta = record {
        names_gone = c.new-3.result;
        names_come = c.new-4.result;
        objects_gone = c.new-5.result;
        objects_come = c.new-6.result;
        edges_gone = c.in_ok-gone.gone;
        edges_come = c.in_ok-come.come;
      };
      next = 3;
    } in
    sample-then plan c.new.ensures c.new-2.ensures c.new-6.ensures gone come refl
