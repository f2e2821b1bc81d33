use Rattle.std.proofs.Common.{◌≡◌, ◌++◌, map, take}
use Rattle.dump_text.specs.Dumps.{ended_lines, label_line}
use Rattle.dump_text.proofs.writing.put_labels.Given as goal

abbrev pub invariant-labels : goal.invariant-labels
invariant-labels l = l.dump ≡ l.fn.dump ++ ended_lines (map label_line (take l.place l.labels))
