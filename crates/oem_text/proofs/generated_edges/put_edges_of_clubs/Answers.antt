use Rattle.std.proofs.Common.{subst, map, flat_map, ◌++◌, ◌≡◌, ℕ, ◌+◌, ap, ◌∙◌, arith}
use Rattle.oem_text.specs.Layouts.{edge_from}
use Rattle.oem_text.specs.Generated.{numbers_from, arcs_of_club}
use Rattle.oem_text.proofs.GeneratedEdgeLaws.{arcs_more}
use Rattle.oem_text.proofs.generated_edges.put_edges_of_clubs.Goals as goal

pub clubs-preserved : goal.clubs-preserved
clubs-preserved c =
    λ table same.
    let at = c.clubs.c in
    let turn : at ≡ 0 + at = omega arith in
    arcs_more (arcs_of_club c.args.count) c.args.next table c.args.edges.now c.clubs.edges c.put_edges_of_club.new.edges 0 at (c.clubs.invariant table same)
    (c.in_ok-put_edges_of_club.ensures table same
    ∙ ap (λ (i : ℕ). c.clubs.edges ++ map (edge_from c.args.next table) (arcs_of_club c.args.count i)) turn)

pub returns : goal.returns
returns c =
    λ table same.
    let end : c.clubs.c ≡ 10 = omega arith in
    subst (λ (n : ℕ). c.clubs.edges ≡ c.args.edges.now ++ map (edge_from c.args.next table) (flat_map (arcs_of_club c.args.count) (numbers_from 0 n))) end
    (c.clubs.invariant table same)
