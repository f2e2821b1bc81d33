use Rattle.std.proofs.Common.{◌≡◌, ℕ, ◌+◌, ap, ◌∙◌, arith}
use Rattle.oem_text.specs.Generated.{person_place, person_arc}
use Rattle.oem_text.proofs.GeneratedEdgeLaws.{edge_more}
use Rattle.oem_text.proofs.generated_edges.put_persons.Goals as goal

pub persons-preserved : goal.persons-preserved
persons-preserved c =
    λ table label.
    let at = c.persons.place in
    let turn : at + 1 ≡ 1 + at = omega arith in
    let parent : c.edge.result.parent.0 ≡ c.args.next + 0 = omega (arith, c.edge.ensures.parent) in
    let child : c.edge.result.child.0 ≡ c.args.next + person_place (1 + at) =
    c.edge.ensures.child ∙ c.person.ensures ∙ ap (λ (i : ℕ). c.args.next + person_place i) turn in
    edge_more person_arc c.args.next table c.args.edges.now c.persons.edges c.push.new.self 1 at c.edge.result (c.persons.invariant table label)
    parent (c.edge.ensures.label ∙ label) child c.in_ok-push.ensures.ok
