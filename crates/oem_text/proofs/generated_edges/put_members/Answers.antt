use Rattle.std.proofs.Common.{◌≡◌, ℕ, List, ◌+◌, ◌%◌, ◌≤◌, ◌++◌, map, ap, ◌∙◌, arith}
use Rattle.oem_text.specs.Layouts.{edge_from}
use Rattle.oem_text.specs.Generated.{club_place, person_place, member_arc}
use Rattle.oem_text.proofs.LaidLaws.{edge_own}
use Rattle.oem_text.proofs.GeneratedClubs.{members_first}
use Rattle.oem_text.proofs.GeneratedEdgeLaws.{member_more}
use Rattle.oem_text.proofs.generated_edges.put_members.Goals as goal

pub members-init : goal.members-init
members-init c =
    let first = c.first_member-i.ensures in
    let same = members_first c.args.count c.args.c c.first_member-i.result first.digit first.some first.first in
    record {
      digit = first.digit;
      some = first.some;
      edges = λ table label.
          ap (λ (l : List ℕ). c.args.edges.now ++ map (edge_from c.args.next table) (map (member_arc c.args.count c.args.c) l)) same;
    }

pub members-preserved : goal.members-preserved
members-preserved c =
    let next = c.args.next in
    let count = c.args.count in
    let i = c.members.i in
    let held = c.members.invariant in
    let low : i ≤ count = omega (arith, c.members-test.true) in
    let digit : (i + 10) % 10 ≡ c.args.c = omega (arith, held.digit) in
    let parent : c.edge.result.parent.0 ≡ next + club_place count c.args.c = c.edge.ensures.parent ∙ c.club-parent.ensures in
    let child : c.edge.result.child.0 ≡ next + person_place i = c.edge.ensures.child ∙ c.person.ensures in
    record {
      digit = digit;
      some = omega (arith, held.some);
      edges = λ table label. (
          let own = edge_own c.edge.result next table (member_arc count c.args.c i) parent (c.edge.ensures.label ∙ label) child in
          member_more next table c.members.edges c.push.new.self _ count c.args.c i c.edge.result held.digit low (held.edges table label) own
          c.in_ok-push.ensures.ok);
    }
