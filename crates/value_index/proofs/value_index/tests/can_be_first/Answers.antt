use Rattle.std.proofs.Common.{◌≡◌, ◌≢◌, ◌<◌, ◌^◌, inl, inr, List, [], length, All, AllPairs, Contains, Less, subst, sym, ap, arith}
use Rattle.std.proofs.lemmas.List.Elements.{All-nil}
use Rattle.lore_base.proofs.ListLaws.{AllPairs-unique}
use Rattle.lore_base.proofs.MemberLaws.{Contains-none}
use Rattle.list_laws.proofs.AscentLaws.{AllPairs-once}
use Rattle.list_laws.proofs.MemberLaws.{All-from_members}
use Rattle.list_laws.proofs.PairLaws.{AllPairs-nil}
use Rattle.index_traits.specs.Entries.{AreAscendingEntries, entry_cmp}
use Rattle.sorted_list.specs.SortedLists.{IsThen}
use Rattle.value_index.specs.Types.{Complex, ValueEntry}
use Rattle.value_index.specs.Values.{FitsEntries}
use Rattle.value_orders.proofs.EntryLaws.{less_once}
use Rattle.value_index.proofs.value_index.tests.can_be_first.Goals as goal

-- entries that come into an index of none
module _ (come : List ValueEntry) where
  comes : (entry : ValueEntry) → IsThen [] [] come entry → Contains come entry
  comes entry then = elim then [ inl at ↦ at | inr kept ↦ absurd (Contains-none entry kept.0) ]

  fits_none : AreAscendingEntries come → AllPairs (λ a b. a.object ≢ b.object) come → All (λ entry. entry.value ≢ Complex) come
      → length come < 2 ^ 32 → FitsEntries [] [] come
  fits_none ascend apart atomic few = record {
    gone_ascend = AllPairs-nil (λ a b. entry_cmp a b ≡ Less);
    come_ascend = ascend;
    change = record {
      kept_ones = All-nil (Contains []);
      new_ones = All-from_members (λ entry. ¬ (Contains [] entry × (¬ Contains [] entry))) come (λ entry at old. Contains-none entry old.0);
    };
    atomic = atomic;
    one_value = λ a b first second same.
        ap (λ (e : ValueEntry). e.value)
        (AllPairs-once (λ (x : ValueEntry) (y : ValueEntry). x.object ≢ y.object) come apart a b (comes a first) (comes b second)
        (λ other. other same) (λ other. other (sym same)));
    few = λ after ascends less.
        subst (λ (l : List ValueEntry). length l < 2 ^ 32)
        (sym (AllPairs-unique (λ a b. entry_cmp a b ≡ Less) less_once after come ascends ascend
        (λ entry. (λ at. comes entry ((less entry).0 at), λ at. (less entry).1 (inl at))))) few;
  }

pub returns : goal.returns
returns c = λ atomic.
    fits_none c.args.entries.now (c.are_in_order.ensures.ascend c.if-not-are_in_order.false) (c.are_in_order.ensures.apart c.if-not-are_in_order.false)
    (c.are_atomic.ensures atomic) (omega (arith, c.if-entries-gt100.false))
