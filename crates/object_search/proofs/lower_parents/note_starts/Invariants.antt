use Rattle.std.proofs.Common.{◌≡◌, length}
use Rattle.object_search.specs.LowerParents.{AreLed}
use Rattle.object_search.proofs.lower_parents.note_starts.Given as goal

abbrev pub invariant-starts : goal.invariant-starts
invariant-starts l = record {
  count : length l.noted.items ≡ length l.fn.noted.items;
  led : AreLed l.fn.starts l.fn.edges l.fn.first.0 l.fn.noted.items → AreLed l.fn.starts l.fn.edges l.fn.first.0 l.noted.items;
}
