use Rattle.std.proofs.Common.{◌≡◌, ◌++◌, map}
use Rattle.edge_lists.specs.Objects.{object_of}
use Rattle.graph_changes.specs.Differing.{AreDiffering}
use Rattle.graph_changes.proofs.deltas.differing.Given as goal

abbrev pub invariant-given : goal.invariant-given
invariant-given l = record {
  whole : l.yielded ++ l.object-iterator.rest.items ≡ l.fn.given;
  come : AreDiffering (map object_of l.objects) l.yielded l.come;
}
