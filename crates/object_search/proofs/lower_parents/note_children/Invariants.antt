use Rattle.std.proofs.Common.{◌≡◌, List, length}
use Rattle.object_search.specs.Types.{Oid}
use Rattle.object_search.specs.LowerParents.{AreLed}
use Rattle.object_search.proofs.lower_parents.note_children.Given as goal

abbrev pub invariant-edges : goal.invariant-edges
invariant-edges l = record {
  count : length l.noted.items ≡ length l.fn.noted.items;
  led : (starts : List Oid) → AreLed starts l.fn.edges l.fn.first.0 l.fn.noted.items → AreLed starts l.fn.edges l.fn.first.0 l.noted.items;
}
