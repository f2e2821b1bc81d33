-- What a probe finds among entries, one entry after another.
use Rattle.std.proofs.Common.{◌≡◌, ℕ, ◌+◌, ◌<◌, ◌⊎◌, inl, inr, Less, List, [], ◌∷◌, ◌++◌, length, get_or, take}
use Rattle.std.proofs.Common.{Contains, nat_cmp, subst, sym, ap, ◌∙◌, arith, length-take, length-append, append_assoc}
use Rattle.std.specs.Ordering.{ordering_then}
use Rattle.std.proofs.lemmas.Bool.Decides.{nat_tests}
use Rattle.std.proofs.lemmas.List.Elements.{Contains-append_left, Contains-push, Contains-push_cases, Contains-get_or}
use Rattle.std.proofs.lemmas.List.Quantifiers.{all_pairs_push}
use Rattle.index_traits.specs.Entries.{AreAscendingEntries, entry_of, entry_cmp, IsFound}
use Rattle.lore_base.specs.Lists.{ExtendsBy}
use Rattle.lore_base.specs.TargetSets.{ListsInOrder}
use Rattle.lore_base.specs.Comparisons.{Compares}
use Rattle.lore_base.proofs.MemberLaws.{Contains-none, Contains-same}
use Rattle.lore_base.proofs.TargetLaws.{ListsInOrder-unique}
use Rattle.list_laws.proofs.PartLaws.{take_more_read}
use Rattle.value_index.specs.Types.{Oid, Label, Op, Value, ValueEntry}
use Rattle.value_index.specs.inside.Matches.{IsMatch, CountsFound}
use Rattle.value_index.proofs.ListLaws.{AllPairs-before}

second_rises : (p q n m : ℕ) → p ≡ q → ordering_then (nat_cmp p q) (nat_cmp n m) ≡ Less → n < m
second_rises p q n m same h = grind (arith, nat_tests)

-- an entry of the label and the value that it has
made_again : (entry : ValueEntry) (label : Label) → entry.label ≡ label → entry ≡ entry_of label entry.value entry.object
made_again entry label same = λ i. record { label = same i; value = entry.value; object = entry.object }

module _ (label : Label) (op : Op) (value : Value) where
  pub found-none : ListsInOrder (IsFound [] label op value) []
  found-none = record {
    ascending = λ i j d lt len. absurd (omega (arith, len));
    exact = λ oid. (λ at. absurd (Contains-none oid at), λ found. absurd (Contains-none _ found.1));
  }

  module _ (front : List ValueEntry) (entry : ValueEntry) (oids : List Oid) (lists : ListsInOrder (IsFound front label op value) oids) where
    found_earlier : (oid : Oid) → IsFound front label op value oid → IsFound (front ++ entry ∷ []) label op value oid
    found_earlier oid found = (found.0, Contains-append_left front (entry ∷ []) _ found.1, found.2)

    found_last : IsMatch label op value entry → IsFound (front ++ entry ∷ []) label op value entry.object
    found_last match =
        (entry.value, Contains-same (front ++ entry ∷ []) entry _ (made_again entry label match.labelled) (Contains-push front entry), match.compares)

    found_cases : (oid : Oid) → IsFound (front ++ entry ∷ []) label op value oid
        → IsFound front label op value oid ⊎ (IsMatch label op value entry × (entry.object ≡ oid))
    found_cases oid found = elim (Contains-push_cases front entry (entry_of label found.0 oid) found.1) [
      | inl earlier ↦ inl (found.0, earlier, found.2)
      | inr same ↦ inr (
        record { labelled = ap (λ e. e.label) same; compares = subst (λ v. Compares v op value) (sym (ap (λ e. e.value) same)) found.2 },
        ap (λ e. e.object) same,
      )
    ]

    -- an entry that is no match finds nothing more
    pub found-skip : (IsMatch label op value entry → ⊥) → ListsInOrder (IsFound (front ++ entry ∷ []) label op value) oids
    found-skip other = record {
      ascending = lists.ascending;
      exact = λ oid. (
        λ at. found_earlier oid ((lists.exact oid).0 at),
        λ found. elim (found_cases oid found) [ inl earlier ↦ (lists.exact oid).1 earlier | inr last ↦ absurd (other last.0) ],
      );
    }

    -- a match behind the others finds its object behind theirs
    pub found-push : ((other : ValueEntry) → Contains front other → entry_cmp other entry ≡ Less) → IsMatch label op value entry
        → ListsInOrder (IsFound (front ++ entry ∷ []) label op value) (oids ++ entry.object ∷ [])
    found-push above match = record {
      ascending = all_pairs_push (λ (a b : Oid). a.0 < b.0) oids entry.object lists.ascending (λ k d lt.
          let found = (lists.exact (get_or oids k d)).0 (Contains-get_or oids k d lt) in
          second_rises label.0 entry.label.0 _ _ (ap (λ (l : Label). l.0) (sym match.labelled)) (above _ found.1));
      exact = λ oid. (
        λ at. elim (Contains-push_cases oids entry.object oid at) [
          | inl earlier ↦ found_earlier oid ((lists.exact oid).0 earlier)
          | inr same ↦ subst (λ (o : Oid). IsFound (front ++ entry ∷ []) label op value o) same (found_last match)
        ],
        λ found. elim (found_cases oid found) [
          | inl earlier ↦ Contains-append_left oids (entry.object ∷ []) oid ((lists.exact oid).1 earlier)
          | inr last ↦ Contains-same (oids ++ entry.object ∷ []) entry.object oid last.1 (Contains-push oids entry.object)
        ],
      );
    }

  module _ (entries : List ValueEntry) (ascend : AreAscendingEntries entries) (i : ℕ) (entry : ValueEntry) (lt : i < length entries)
      (here : entry ≡ get_or entries i entry) where
    found_more : IsMatch label op value entry → (oids : List Oid) → ListsInOrder (IsFound (take i entries) label op value) oids
        → ListsInOrder (IsFound (take (i + 1) entries) label op value) (oids ++ entry.object ∷ [])
    found_more match oids lists =
        rw (take_more_read entries i entry lt here)
        (found-push (take i entries) entry oids lists
        (λ other at. rw here (AllPairs-before (λ a b. entry_cmp a b ≡ Less) entries ascend i entry lt other at)) match)

    found_same : (IsMatch label op value entry → ⊥) → (oids : List Oid) → ListsInOrder (IsFound (take i entries) label op value) oids
        → ListsInOrder (IsFound (take (i + 1) entries) label op value) oids
    found_same other oids lists = rw (take_more_read entries i entry lt here) (found-skip (take i entries) entry oids lists other)

    -- one entry more of a list, where what is found is put behind a list or counted
    pub extends_more : IsMatch label op value entry → (old buf new : List Oid)
        → ExtendsBy (ListsInOrder (IsFound (take i entries) label op value)) old buf → new ≡ buf ++ entry.object ∷ []
        → ExtendsBy (ListsInOrder (IsFound (take (i + 1) entries) label op value)) old new
    extends_more match old buf new before pushed = (
      before.0 ++ entry.object ∷ [],
      pushed ∙ ap (λ l. l ++ entry.object ∷ []) before.1 ∙ append_assoc old before.0 (entry.object ∷ []),
      found_more match before.0 before.2,
    )

    pub extends_same : (IsMatch label op value entry → ⊥) → (old buf new : List Oid)
        → ExtendsBy (ListsInOrder (IsFound (take i entries) label op value)) old buf → new ≡ buf
        → ExtendsBy (ListsInOrder (IsFound (take (i + 1) entries) label op value)) old new
    extends_same other old buf new before same = (before.0, same ∙ before.1, found_same other before.0 before.2)

    pub counts_more : IsMatch label op value entry → (before after : ℕ) → CountsFound (take i entries) label op value before
        → after ≡ before + 1 → CountsFound (take (i + 1) entries) label op value after
    counts_more match before after counted more = (
      counted.0 ++ entry.object ∷ [],
      found_more match counted.0 counted.1,
      omega (arith, counted.2, length-append {A = Oid}),
      omega (arith, counted.3, length-take {A = ValueEntry}),
    )

    pub counts_same : (IsMatch label op value entry → ⊥) → (before after : ℕ) → CountsFound (take i entries) label op value before
        → after ≡ before → CountsFound (take (i + 1) entries) label op value after
    counts_same other before after counted same = (
      counted.0,
      found_same other counted.0 counted.1,
      omega (arith, counted.2),
      omega (arith, counted.3, length-take {A = ValueEntry}),
    )

  -- what was counted is how many there are
  pub counts_all : (entries all : List ValueEntry) → entries ≡ all → (count : ℕ) → CountsFound entries label op value count
      → (oids : List Oid) → ListsInOrder (IsFound all label op value) oids → count ≡ length oids
  counts_all entries all same count counted oids lists =
      counted.2 ∙ ap length (ListsInOrder-unique (IsFound all label op value) counted.0 oids
      (subst (λ l. ListsInOrder (IsFound l label op value) counted.0) same counted.1) lists)
