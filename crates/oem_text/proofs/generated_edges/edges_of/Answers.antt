use Rattle.std.proofs.Common.{◌≡◌, ◌+◌, ◌*◌, ◌∙◌, arith}
use Rattle.oem_text.specs.Generated.{ring_arc}
use Rattle.oem_text.proofs.LaidLaws.{edge_own}
use Rattle.oem_text.proofs.GeneratedEdgeLaws.{label_at, edges_all}
use Rattle.oem_text.proofs.generated_edges.edges_of.Goals as goal

pub returns : goal.returns
returns c =
    λ table same.
    let next = c.args.next in
    let count = c.args.count in
    let labels = c.args.labels.now in
    let clubs : next + 4 * c.from.result + 1 ≡ next + (4 * count + 1) = omega (arith, c.from.ensures) in
    let links : next + 4 * c.from.result + 1 + 10 ≡ next + (4 * count + 11) = omega (arith, c.from.ensures) in
    let parent : c.edge.result.parent.0 ≡ next + 0 = omega (arith, c.edge.ensures.parent) in
    let child : c.edge.result.child.0 ≡ next + (4 * count + 11 + 0) = omega (arith, c.edge.ensures.child, links) in
    let ring = edge_own c.edge.result next table (ring_arc count) parent (c.edge.ensures.label ∙ label_at table labels 8 _ same (omega arith)) child in
    edges_all next count table c.in_ok-edges.edges c.put_persons.new.edges c.put_clubs.new.edges c.push.new.self c.put_edges_of_persons.new.edges
    c.put_edges_of_clubs.new.edges c.put_links.new.edges c.edge.result c.in_ok-edges.ensures
    (c.in_ok-put_persons.ensures table (label_at table labels 0 _ same (omega arith)))
    (c.in_ok-put_clubs.ensures table count (label_at table labels 5 _ same (omega arith)) clubs)
    ring c.in_ok-push.ensures.ok (c.in_ok-put_edges_of_persons.ensures table same) (c.in_ok-put_edges_of_clubs.ensures table same)
    (c.in_ok-put_links.ensures table next count (label_at table labels 9 _ same (omega arith)) links)
