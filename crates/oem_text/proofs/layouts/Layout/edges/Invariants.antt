use Rattle.std.proofs.Common.{◌≡◌, ◌≤◌, ◌++◌, ℕ, List, length, map, take}
use Rattle.oem_text.specs.Types.{LABELS}
use Rattle.oem_text.specs.Layouts.{PlacedArc, edge_from, table_of, with_texts}
use Rattle.oem_text.proofs.layouts.Layout.edges.Given as goal

abbrev pub invariant-links : goal.invariant-links
invariant-links l = record {
  numbers : l.numbers ≡ with_texts l.fn.numbers (map (λ (arc : PlacedArc). arc.label) (take l.link-index l.self.arcs));
  edges : (more : List (List ℕ)) → l.edges ≡ map (edge_from l.next (table_of l.numbers ++ more)) (take l.link-index l.self.arcs);
  few : length (table_of l.numbers) ≤ LABELS;
}
