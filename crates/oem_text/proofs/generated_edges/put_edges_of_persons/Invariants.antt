use Rattle.std.proofs.Common.{◌≡◌, ◌++◌, ℕ, List, map, flat_map}
use Rattle.oem_labels.specs.Labels.{label_in}
use Rattle.oem_text.specs.Layouts.{edge_from}
use Rattle.oem_text.specs.Generated.{numbers_from, arcs_of_person, generated_labels}
use Rattle.oem_text.proofs.generated_edges.put_edges_of_persons.Given as goal

abbrev pub invariant-persons : goal.invariant-persons
invariant-persons l = (table : List (List ℕ)) → l.labels ≡ map (label_in table) generated_labels
    → l.edges ≡ l.fn.edges ++ map (edge_from l.next table) (flat_map arcs_of_person (numbers_from 1 l.place))
