use Rattle.std.proofs.Common.{◌≡◌, ◌+◌, ◌++◌, ℕ, map, ap, ◌∙◌, arith}
use Rattle.oem_text.specs.Layouts.{edge_from}
use Rattle.oem_text.specs.Generated.{arcs_of_person}
use Rattle.oem_text.proofs.GeneratedEdgeLaws.{arcs_more}
use Rattle.oem_text.proofs.generated_edges.put_edges_of_persons.Goals as goal

pub persons-preserved : goal.persons-preserved
persons-preserved c =
    λ table same.
    let at = c.persons.place in
    let turn : at + 1 ≡ 1 + at = omega arith in
    arcs_more arcs_of_person c.args.next table c.args.edges.now c.persons.edges c.put_edges_of_person.new.edges 1 at (c.persons.invariant table same)
    (c.in_ok-put_edges_of_person.ensures table same ∙ ap (λ (i : ℕ). c.persons.edges ++ map (edge_from c.args.next table) (arcs_of_person i)) turn)
