-- The entries of pairs, of one pair more.
use Rattle.std.proofs.Common.{◌≡◌, ◌≢◌, ℕ, ◌+◌, ◌<◌, inl, inr, Less, List, [], ◌∷◌, ◌++◌, length, take, get_or, Contains, refl, sym, subst}
use Rattle.std.proofs.lemmas.List.{take_more}
use Rattle.lore_base.proofs.MemberLaws.{Contains-none}
use Rattle.index_traits.specs.Entries.{entry_cmp, entry_of}
use Rattle.value_changes.specs.Types.{Oid, Value, Complex, ValueEntry}
use Rattle.value_changes.specs.declared.pairs.Pair.{Pair}
use Rattle.sorted_list.specs.SortedLists.{Ascends}
use Rattle.value_changes.specs.inside.Sets.{AreSetOf}
use Rattle.value_changes.specs.inside.Pairs.{pair_cmp}
use Rattle.value_changes.specs.inside.PairEntries.{pair_in, IsPairEntry}
use Rattle.value_changes.proofs.SortedLaws.{in-more, below-next, set-none, set-more, set-same}

pub entries-none : (objects : List (Oid × Value)) → AreSetOf entry_cmp (IsPairEntry objects []) []
entries-none objects =
    set-none entry_cmp (IsPairEntry objects []) (λ entry of_pair. Contains-none (pair_in entry) of_pair.pair)

module _ (objects : List (Oid × Value)) (front : List Pair) (next : Pair) where
  entry-early : (entry : ValueEntry) → IsPairEntry objects front entry → IsPairEntry objects (front ++ next ∷ []) entry
  entry-early entry of_pair = record {
    pair = (in-more front next (pair_in entry)).1 (inl of_pair.pair);
    live = of_pair.live;
    atomic = of_pair.atomic;
  }

  module _ (entries : List ValueEntry) (sofar : AreSetOf entry_cmp (IsPairEntry objects front) entries) where
    entries-pushed : (value : Value) → Contains objects (next.object, value) → value ≢ Complex
        → ((other : Value) → Contains objects (next.object, other) → other ≢ Complex → value ≡ other)
        → ((pair : Pair) → Contains front pair → pair_cmp pair next ≡ Less)
        → AreSetOf entry_cmp (IsPairEntry objects (front ++ next ∷ []))
        (entries ++ entry_of next.label value next.object ∷ [])
    entries-pushed value live atomic only below =
        let own : ValueEntry = entry_of next.label value next.object in
        set-more entry_cmp (IsPairEntry objects front) (IsPairEntry objects (front ++ next ∷ [])) entries own sofar
        (λ entry of_pair. below (pair_in entry) of_pair.pair) (λ entry. (
          λ of_pair. elim ((in-more front next (pair_in entry)).0 of_pair.pair) [
            | inl early ↦ inl (record { pair = early; live = of_pair.live; atomic = of_pair.atomic })
            | inr same ↦
                let there = subst (λ (p : Pair). Contains objects (p.object, entry.value)) (sym same) of_pair.live in
                let is = only entry.value there of_pair.atomic in
                inr (λ i. record { label = (same i).label; value = is i; object = (same i).object })
          ],
          λ either. elim either [
            | inl of_pair ↦ entry-early entry of_pair
            | inr same ↦
                let here : IsPairEntry objects (front ++ next ∷ []) own =
                record { pair = (in-more front next next).1 (inr refl); live = live; atomic = atomic } in
                subst (IsPairEntry objects (front ++ next ∷ [])) same here
          ],
        ))

    entries-skipped : ((value : Value) → Contains objects (next.object, value) → value ≢ Complex → ⊥)
        → AreSetOf entry_cmp (IsPairEntry objects (front ++ next ∷ [])) entries
    entries-skipped none =
        set-same entry_cmp (IsPairEntry objects front) (IsPairEntry objects (front ++ next ∷ [])) entries sofar
        (λ entry. (
          λ of_pair. elim ((in-more front next (pair_in entry)).0 of_pair.pair) [
            | inl early ↦ record { pair = early; live = of_pair.live; atomic = of_pair.atomic }
            | inr same ↦ absurd (none entry.value
                (subst (λ (p : Pair). Contains objects (p.object, entry.value)) (sym same) of_pair.live) of_pair.atomic)
          ],
          λ of_pair. entry-early entry of_pair,
        ))

module _ (objects : List (Oid × Value)) (pairs : List Pair) (entries : List ValueEntry) (place : ℕ) (d : Pair)
    (lt : place < length pairs) (sofar : AreSetOf entry_cmp (IsPairEntry objects (take place pairs)) entries) where
  pub entries-more : Ascends pair_cmp pairs → (longer : List ValueEntry) (copy value : Value)
      → longer ≡ entries ++ entry_of (get_or pairs place d).label copy (get_or pairs place d).object ∷ [] → copy ≡ value
      → Contains objects ((get_or pairs place d).object, value) → value ≢ Complex
      → ((other : Value) → Contains objects ((get_or pairs place d).object, other) → other ≢ Complex → value ≡ other)
      → AreSetOf entry_cmp (IsPairEntry objects (take (place + 1) pairs)) longer
  entries-more ascend longer copy value is same live atomic only =
      rw (take_more pairs place d lt, is, same)
      (entries-pushed objects (take place pairs) (get_or pairs place d) entries sofar value live atomic only
      (below-next pair_cmp pairs ascend place d lt))

  pub entries-less : ((value : Value) → Contains objects ((get_or pairs place d).object, value) → value ≢ Complex → ⊥)
      → AreSetOf entry_cmp (IsPairEntry objects (take (place + 1) pairs)) entries
  entries-less none =
      rw (take_more pairs place d lt) (entries-skipped objects (take place pairs) (get_or pairs place d) entries sofar none)
