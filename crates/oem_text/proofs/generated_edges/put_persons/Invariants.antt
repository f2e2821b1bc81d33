use Rattle.std.proofs.Common.{◌≡◌, ◌++◌, ℕ, List, map, codes}
use Rattle.oem_labels.specs.Labels.{label_in}
use Rattle.oem_text.specs.Layouts.{edge_from}
use Rattle.oem_text.specs.Generated.{numbers_from, person_arc}
use Rattle.oem_text.proofs.generated_edges.put_persons.Given as goal

abbrev pub invariant-persons : goal.invariant-persons
invariant-persons l = (table : List (List ℕ)) → l.label ≡ label_in table (codes "person")
    → l.edges ≡ l.fn.edges ++ map (edge_from l.next table) (map person_arc (numbers_from 1 l.place))
