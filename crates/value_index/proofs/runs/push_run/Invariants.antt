use Rattle.std.proofs.Common.{◌≡◌, ◌++◌, take}
use Rattle.value_index.specs.inside.Runs.{objects_in}
use Rattle.value_index.proofs.runs.push_run.Given as goal

abbrev pub invariant-entries : goal.invariant-entries
invariant-entries l = l.buf ≡ l.fn.buf ++ objects_in (take l.entry-index l.fn.run)
