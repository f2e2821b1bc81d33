use Rattle.std.proofs.Common.{◌≡◌, ◌++◌, map, take}
use Rattle.dump_text.specs.Dumps.{ended_lines, name_line}
use Rattle.dump_text.proofs.writing.put_names.Given as goal

abbrev pub invariant-names : goal.invariant-names
invariant-names l = l.dump ≡ l.fn.dump ++ ended_lines (map name_line (take l.place l.names))
