use Rattle.std.proofs.Common.{subst, map, ◌++◌, ◌≡◌, ℕ, ◌+◌, ◌*◌, ◌%◌, ap, ◌∙◌, arith}
use Rattle.oem_text.specs.Layouts.{edge_from}
use Rattle.oem_text.specs.Generated.{numbers_from, next_arc}
use Rattle.oem_text.proofs.GeneratedEdgeLaws.{edge_more}
use Rattle.oem_text.proofs.generated_edges.put_links.Goals as goal

pub links-preserved : goal.links-preserved
links-preserved c =
    λ table next count label links.
    let at = c.links.j in
    let turn : at ≡ 0 + at = omega arith in
    let behind : (at + 1) % 100 ≡ (0 + at + 1) % 100 = ap (λ (j : ℕ). (j + 1) % 100) turn in
    let parent : c.edge.result.parent.0 ≡ next + (4 * count + 11 + (0 + at)) = omega (arith, c.edge.ensures.parent, links) in
    let child : c.edge.result.child.0 ≡ next + (4 * count + 11 + (0 + at + 1) % 100) = omega (arith, c.edge.ensures.child, links, behind) in
    edge_more (next_arc count) next table c.args.edges.now c.links.edges c.push.new.self 0 at c.edge.result (c.links.invariant table next count label links)
    parent (c.edge.ensures.label ∙ label) child c.in_ok-push.ensures.ok

pub returns : goal.returns
returns c =
    λ table next count label links.
    let end : c.links.j ≡ 100 = omega arith in
    subst (λ (n : ℕ). c.links.edges ≡ c.args.edges.now ++ map (edge_from next table) (map (next_arc count) (numbers_from 0 n))) end
    (c.links.invariant table next count label links)
