use Rattle.std.proofs.Common.{◌≡◌, ◌+◌, ◌-◌, ◌%◌, ◌≤◌, ◌++◌, ℕ, List, map, codes}
use Rattle.oem_labels.specs.Labels.{label_in}
use Rattle.oem_text.specs.Layouts.{edge_from}
use Rattle.oem_text.specs.Generated.{member_arc, club_members}
use Rattle.oem_text.proofs.GeneratedClubs.{members_from}
use Rattle.oem_text.proofs.generated_edges.put_members.Given as goal

abbrev pub invariant-members : goal.invariant-members
invariant-members l = record {
  digit : l.i % 10 ≡ l.c;
  some : 1 ≤ l.i;
  edges : (table : List (List ℕ)) → l.label ≡ label_in table (codes "member")
      → l.edges ++ map (edge_from l.next table) (map (member_arc l.count l.c) (members_from l.count l.c l.i))
      ≡ l.fn.edges ++ map (edge_from l.next table) (map (member_arc l.count l.c) (club_members l.count l.c));
}

abbrev pub decreases-members : goal.decreases-members
decreases-members l = l.count + 1 - l.i
