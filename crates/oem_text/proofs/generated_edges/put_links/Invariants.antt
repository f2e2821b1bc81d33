use Rattle.std.proofs.Common.{◌≡◌, ◌+◌, ◌*◌, ◌++◌, ℕ, List, map, codes}
use Rattle.oem_labels.specs.Labels.{label_in}
use Rattle.oem_text.specs.Layouts.{edge_from}
use Rattle.oem_text.specs.Generated.{numbers_from, next_arc}
use Rattle.oem_text.proofs.generated_edges.put_links.Given as goal

abbrev pub invariant-links : goal.invariant-links
invariant-links l = (table : List (List ℕ)) (next count : ℕ) → l.label ≡ label_in table (codes "next") → l.links ≡ next + (4 * count + 11)
    → l.edges ≡ l.fn.edges ++ map (edge_from next table) (map (next_arc count) (numbers_from 0 l.j))
