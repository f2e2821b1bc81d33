use Rattle.std.proofs.Common.{◌≡◌, ◌+◌, ◌*◌, ◌∙◌, arith}
use Rattle.oem_text.specs.Generated.{person_place, leader_arc}
use Rattle.oem_text.proofs.LaidLaws.{edge_own}
use Rattle.oem_text.proofs.GeneratedEdgeLaws.{label_at, club_edges}
use Rattle.oem_text.proofs.generated_edges.put_edges_of_club.Goals as goal

pub returns : goal.returns
returns c =
    λ table same.
    let next = c.args.next in
    let count = c.args.count in
    let labels = c.args.labels.now in
    let parent : c.edge.result.parent.0 ≡ next + (4 * count + 1 + c.args.c) = c.edge.ensures.parent ∙ c.club.ensures in
    let child : c.edge.result.child.0 ≡ next + person_place (10 + c.args.c) = c.edge.ensures.child ∙ c.person.ensures in
    let leader = edge_own c.edge.result next table (leader_arc count c.args.c) parent
    (c.edge.ensures.label ∙ label_at table labels 7 _ same (omega arith)) child in
    club_edges next table c.args.edges.now c.put_members.new.edges c.push.new.self count c.args.c c.edge.result
    (c.in_ok-put_members.ensures table (label_at table labels 6 _ same (omega arith))) leader c.in_ok-push.ensures.ok
