use Rattle.std.proofs.Common.{◌≡◌, Some, None, List, subst}
use Rattle.std.proofs.lemmas.List.{take_all}
use Rattle.std.proofs.lemmas.Option.{same_Some}
use Rattle.index_traits.specs.Entries.{entry_cmp}
use Rattle.value_changes.specs.Types.{Value}
use Rattle.value_changes.specs.declared.pairs.Pair.{Pair}
use Rattle.value_changes.specs.inside.Sets.{AreSetOf}
use Rattle.value_changes.specs.inside.PairEntries.{IsPairEntry}
use Rattle.value_changes.proofs.TakenLaws.{entries-none, entries-more, entries-less}
use Rattle.value_changes.proofs.entries.entries_of.Goals as goal
use Rattle.value_changes.proofs.entries.entries_of.Goals.{in-Some+in_ok-try_copy+in_ok-push, in_default}

pub pairs-init : goal.pairs-init
pairs-init g c = rw c.in_ok-entries.ensures (entries-none _)

not_none : (a : Value) → None ≡ Some a → ⊥
not_none a h = cc

pub pairs-preserved : goal.pairs-preserved
pairs-preserved g c =
    elim c.match-atomic_value.branch [
      | in-Some+in_ok-try_copy+in_ok-push w ↦ rw w.entries-is
          (entries-more (g.V.ValueOf.objects c.args.values.now) c.args.pairs.now c.pairs.entries c.pairs.pair-index _
          c.pairs-test.true c.pairs.invariant c.requires _ _ w.in-Some.value.now w.in_ok-push.ensures.ok
          w.in_ok-try_copy.ensures w.in-Some.ensures.found w.in-Some.ensures.atomic
          (λ other at atomic. same_Some w.in-Some.value.now other (w.in-Some.ensures.only other at atomic)))
      | in_default w ↦ rw w.entries-is
          (entries-less (g.V.ValueOf.objects c.args.values.now) c.args.pairs.now c.pairs.entries c.pairs.pair-index _
          c.pairs-test.true c.pairs.invariant
          (λ value at atomic. not_none value (w.in_default.ensures.only value at atomic)))
    ]

pub returns : goal.returns
returns g c =
    subst (λ (pairs : List Pair). AreSetOf entry_cmp
    (IsPairEntry (g.V.ValueOf.objects c.args.values.now) pairs) c.pairs.entries)
    (take_all c.pairs.pair-index c.args.pairs.now c.pairs-test.false) c.pairs.invariant
