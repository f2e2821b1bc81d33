use Rattle.std.proofs.Common.{◌+◌, ◌≤◌, length}
use Rattle.std.specs.Prelude.{vec_len, vec_capacity}
use Rattle.graph_changes.proofs.RecordLaws.{IsPutSoFar}
use Rattle.graph_changes.proofs.object_changes.put_objects.Given as goal

abbrev pub invariant-given : goal.invariant-given
invariant-given l = record {
  so_far : IsPutSoFar l.fn.given l.object-iterator.rest.items l.fn.objects.items l.objects.items;
  room : vec_len l.objects + length l.object-iterator.rest.items ≤ vec_capacity l.objects;
}
