-- The entries of pairs that leave go, and those of pairs that come in come.
use Rattle.std.proofs.Common.{◌⊎◌, inl, inr, List, Contains}
use Rattle.index_traits.specs.Entries.{entry_cmp}
use Rattle.lore_base.proofs.ToldLaws.{told_member, told_oid}
use Rattle.value_changes.specs.Types.{ValueEntry}
use Rattle.value_changes.specs.declared.pairs.Pair.{Pair}
use Rattle.value_changes.specs.EntryChanges.{HasEntry, AreEntryChanges}
use Rattle.value_changes.specs.Reads.{HasAtom}
use Rattle.value_changes.specs.inside.Sets.{AreSetOf}
use Rattle.value_changes.specs.inside.Pairs.{pair_cmp, IsMoving}
use Rattle.value_changes.specs.inside.PairEntries.{pair_in, IsPairEntry}
use Rattle.value_changes.proofs.StayLaws.{Reading, touched, entered-stays, entered-was, not_given, before-exact, then-exact, value-stays, value-was, told_moves}

module _ (read : Reading) (leaving coming : List Pair) (gone come : List ValueEntry)
    (leaves : AreSetOf pair_cmp (IsMoving read.before read.then read.oids) leaving)
    (comes : AreSetOf pair_cmp (IsMoving read.then read.before read.oids) coming)
    (goes : AreSetOf entry_cmp (IsPairEntry read.old.objects leaving) gone)
    (come_in : AreSetOf entry_cmp (IsPairEntry read.new.objects coming) come) where
  -- the object of an entry has an atomic value
  was_atomic : (entry : ValueEntry) → HasEntry read.old entry → HasAtom read.old.objects entry.object
  was_atomic entry was = (entry.value, was.live, was.atomic)

  is_atomic : (entry : ValueEntry) → HasEntry read.new entry → HasAtom read.new.objects entry.object
  is_atomic entry is = (entry.value, is.live, is.atomic)

  gone_was : (entry : ValueEntry) → Contains gone entry → HasEntry read.old entry
  gone_was entry at =
      let of_pair = (goes.exact entry).0 at in
      let moves = (leaves.exact (pair_in entry)).0 of_pair.pair in
      let was = (before-exact read (pair_in entry)).0 moves.0 in
      record { live = of_pair.live; atomic = of_pair.atomic; entered = was.0.1 }

  -- an entry of before whose pair leaves
  goes_with : (entry : ValueEntry) → HasEntry read.old entry → Contains (touched read) entry.object
      → Contains read.oids entry.object ⊎ (Contains read.then (pair_in entry) → ⊥) → Contains gone entry
  goes_with entry was there moves =
      let pair : Pair = pair_in entry in
      let at = (before-exact read pair).1 ((there, was.entered), was_atomic entry was) in
      (goes.exact entry).1 (record { pair = (leaves.exact pair).1 (at, moves); live = was.live; atomic = was.atomic })

  -- an entry of then whose pair comes in
  comes_with : (entry : ValueEntry) → HasEntry read.new entry → Contains (touched read) entry.object
      → Contains read.oids entry.object ⊎ (Contains read.before (pair_in entry) → ⊥) → Contains come entry
  comes_with entry is there moves =
      let pair : Pair = pair_in entry in
      let at = (then-exact read pair).1 ((there, is.entered), is_atomic entry is) in
      (come_in.exact entry).1 (record { pair = (comes.exact pair).1 (at, moves); live = is.live; atomic = is.atomic })

  come_is : (entry : ValueEntry) → Contains come entry
      → HasEntry read.new entry × (HasEntry read.old entry → Contains gone entry)
  come_is entry at =
      let of_pair = (come_in.exact entry).0 at in
      let moves = (comes.exact (pair_in entry)).0 of_pair.pair in
      let is = (then-exact read (pair_in entry)).0 moves.0 in (
        record { live = of_pair.live; atomic = of_pair.atomic; entered = is.0.1 },
        λ was. elim moves.1 [
          | inl is_given ↦ goes_with entry was is.0.0 (inl is_given)
          | inr away ↦ absurd (away
              ((before-exact read (pair_in entry)).1 ((is.0.0, was.entered), was_atomic entry was)))
        ],
      )

  stays : (entry : ValueEntry) → HasEntry read.old entry → Contains gone entry ⊎ HasEntry read.new entry
  stays entry was = elim (told_member told_oid (touched read) entry.object) [
    | inl there ↦ elim (told_moves read read.then (pair_in entry)) [
      | inl moves ↦ inl (goes_with entry was there moves)
      | inr remains ↦
          let is = (then-exact read (pair_in entry)).0 remains.1 in
          let live = value-stays read entry.label entry.object entry.value (inl (was_atomic entry was)) was.live is.0.1
          remains.0 in
          inr (record { live = live; atomic = was.atomic; entered = is.0.1 })
    ]
    | inr untouched ↦
        let is = entered-stays read entry.label entry.object untouched was.entered in
        let none_given = not_given read entry.object untouched in
        let live = value-stays read entry.label entry.object entry.value (inl (was_atomic entry was)) was.live is
        none_given in
        inr (record { live = live; atomic = was.atomic; entered = is })
  ]

  rest : (entry : ValueEntry) → HasEntry read.new entry
      → Contains come entry ⊎ (HasEntry read.old entry × (Contains gone entry → ⊥))
  rest entry is = elim (told_member told_oid (touched read) entry.object) [
    | inl there ↦ elim (told_moves read read.before (pair_in entry)) [
      | inl moves ↦ inl (comes_with entry is there moves)
      | inr remains ↦
          let was = (before-exact read (pair_in entry)).0 remains.1 in
          let live = value-was read entry.label entry.object entry.value (inr (is_atomic entry is)) is.live was.0.1
          is.entered remains.0 in
          inr (
            record { live = live; atomic = is.atomic; entered = was.0.1 },
            λ goes_at. elim ((leaves.exact (pair_in entry)).0 ((goes.exact entry).0 goes_at).pair).1 [
              | inl is_given ↦ remains.0 is_given
              | inr away ↦ away
                  ((then-exact read (pair_in entry)).1 ((there, is.entered), is_atomic entry is))
            ],
          )
    ]
    | inr untouched ↦
        let was = entered-was read entry.label entry.object untouched is.entered in
        let none_given = not_given read entry.object untouched in
        let live = value-was read entry.label entry.object entry.value (inr (is_atomic entry is)) is.live was is.entered
        none_given in
        inr (
          record { live = live; atomic = is.atomic; entered = was },
          λ goes_at.
              let moves = (leaves.exact (pair_in entry)).0 ((goes.exact entry).0 goes_at).pair in
              untouched ((before-exact read (pair_in entry)).0 moves.0).0.0,
        )
  ]

  pub entry-changes : AreEntryChanges read.old read.new gone come
  entry-changes = record {
    gone_ascend = goes.ascend;
    come_ascend = come_in.ascend;
    takes = record { gone_ones = gone_was; come_ones = come_is; stays = stays; rest = rest };
  }
