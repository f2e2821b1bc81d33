use Rattle.std.proofs.Common.{take}
use Rattle.index_traits.specs.Entries.{entry_cmp}
use Rattle.value_changes.specs.inside.Sets.{AreSetOf}
use Rattle.value_changes.specs.inside.PairEntries.{IsPairEntry}
use Rattle.value_changes.proofs.entries.entries_of.Given as goal

abbrev pub invariant-pairs : goal.invariant-pairs
invariant-pairs g l =
    AreSetOf entry_cmp (IsPairEntry (g.V.ValueOf.objects l.values) (take l.pair-index l.pairs)) l.entries
