use Rattle.std.proofs.Common.{◌≡◌, ◌++◌, map, take}
use Rattle.dump_text.specs.Dumps.{ended_lines, object_line}
use Rattle.dump_text.proofs.writing.put_objects.Given as goal

abbrev pub invariant-places : goal.invariant-places
invariant-places l = l.dump ≡ l.fn.dump ++ ended_lines (map object_line (take l.place l.graph.graph.objects))
