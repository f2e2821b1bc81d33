use Rattle.std.proofs.Common.{◌≡◌, ◌++◌, ℕ, List, map, flat_map}
use Rattle.oem_labels.specs.Labels.{label_in}
use Rattle.oem_text.specs.Layouts.{edge_from}
use Rattle.oem_text.specs.Generated.{numbers_from, arcs_of_club, generated_labels}
use Rattle.oem_text.proofs.generated_edges.put_edges_of_clubs.Given as goal

abbrev pub invariant-clubs : goal.invariant-clubs
invariant-clubs l = (table : List (List ℕ)) → l.labels ≡ map (label_in table) generated_labels
    → l.edges ≡ l.fn.edges ++ map (edge_from l.next table) (flat_map (arcs_of_club l.count) (numbers_from 0 l.c))
