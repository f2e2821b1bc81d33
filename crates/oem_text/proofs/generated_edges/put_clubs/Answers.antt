use Rattle.std.proofs.Common.{subst, map, ◌++◌, ℕ, ◌≡◌, ◌+◌, ◌*◌, ◌∙◌, arith}
use Rattle.oem_text.specs.Layouts.{edge_from}
use Rattle.oem_text.specs.Generated.{numbers_from, club_arc}
use Rattle.oem_text.proofs.GeneratedEdgeLaws.{edge_more}
use Rattle.oem_text.proofs.generated_edges.put_clubs.Goals as goal

pub clubs-preserved : goal.clubs-preserved
clubs-preserved c =
    λ table count label clubs.
    let at = c.clubs.c in
    let parent : c.edge.result.parent.0 ≡ c.args.next + 0 = omega (arith, c.edge.ensures.parent) in
    let child : c.edge.result.child.0 ≡ c.args.next + (4 * count + 1 + (0 + at)) = omega (arith, c.edge.ensures.child, clubs) in
    edge_more (club_arc count) c.args.next table c.args.edges.now c.clubs.edges c.push.new.self 0 at c.edge.result (c.clubs.invariant table count label clubs)
    parent (c.edge.ensures.label ∙ label) child c.in_ok-push.ensures.ok

pub returns : goal.returns
returns c =
    λ table count label clubs.
    let end : c.clubs.c ≡ 10 = omega arith in
    subst (λ (n : ℕ). c.clubs.edges ≡ c.args.edges.now ++ map (edge_from c.args.next table) (map (club_arc count) (numbers_from 0 n))) end
    (c.clubs.invariant table count label clubs)
