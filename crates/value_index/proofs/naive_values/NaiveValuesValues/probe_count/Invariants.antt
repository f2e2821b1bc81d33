use Rattle.std.proofs.Common.{take}
use Rattle.value_index.specs.inside.Matches.{CountsFound}
use Rattle.value_index.proofs.naive_values.NaiveValuesValues.probe_count.Given as goal

abbrev pub invariant-entries : goal.invariant-entries
invariant-entries l = CountsFound (take l.entry-index l.entry-items) l.label l.op l.value l.count
