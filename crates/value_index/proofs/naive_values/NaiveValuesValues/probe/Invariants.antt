use Rattle.std.proofs.Common.{take}
use Rattle.index_traits.specs.Entries.{IsFound}
use Rattle.lore_base.specs.Lists.{ExtendsBy}
use Rattle.lore_base.specs.TargetSets.{ListsInOrder}
use Rattle.value_index.proofs.naive_values.NaiveValuesValues.probe.Given as goal

abbrev pub invariant-entries : goal.invariant-entries
invariant-entries l = ExtendsBy (ListsInOrder (IsFound (take l.entry-index l.entry-items) l.label l.op l.value)) l.fn.buf l.buf
