-- The words of groups: each is that of its origin and a label more, and they rise.
use Rattle.std.proofs.Common.{◌≡◌, ◌↔◌, ◌==◌, ℕ, zero, suc, ◌+◌, ◌-◌, ◌<◌, ◌≤◌, ◌⊎◌, inl, inr, IsTrue, List, [], ◌∷◌, ◌++◌, length, take, get_or, Some, AllPairs, eq-eqb, refl, sym, ap, ◌∙◌, subst, add-zero, arith}
use Rattle.std.proofs.lemmas.Bool.{eqb-true}
use Rattle.std.specs.List.{slice_get, Contains}
use Rattle.std.specs.declared.cmp.Ordering.TheVariants.{Less}
use Rattle.std.proofs.lemmas.Bool.{cases_lt}
use Rattle.std.proofs.lemmas.List.{length_push, take_more, take_all, same_from_push, get_or_push}
use Rattle.std.proofs.lemmas.List.Elements.{Contains-get_or, Contains-push_cases}
use Rattle.std.proofs.lemmas.List.Quantifiers.{all_pairs_push}
use Rattle.std.proofs.lemmas.Option.{slice_get_within, slice_get-get_or, get_or_from_slice_get, same_Some}
use Rattle.lore_base.specs.Lists.{Extends}
use Rattle.least_words.specs.Types.{Label, Origin}
use Rattle.lore_base.specs.LeastWords.{shortlex_cmp}
use Rattle.least_words.specs.inside.Groups.{words_on, words_of, AreBack, IsLast, Opens, IsAhead}
use Rattle.least_words.proofs.ListLaws.{one_at_place, Extends-refl, kept_at}
use Rattle.lore_base.proofs.LeastWordLaws.{before_itself, before_back, before_or_same}
use Rattle.list_laws.proofs.PlaceLaws.{Contains-from_place, slice_get-append_left, slice_get-push, Extends-trans}

pub words_on-push : (words : List (List Label)) (origins : List Origin) (origin : Origin)
    → words_on words (origins ++ origin ∷ []) ≡ words_on words origins ++ (get_or (words_on words origins) origin.group [] ++ origin.label ∷ []) ∷ []
words_on-push words [] origin = refl
words_on-push words (first ∷ origins) origin = words_on-push (words ++ (get_or words first.group [] ++ first.label ∷ []) ∷ []) origins origin

pub words_on-extends : (words : List (List Label)) (origins : List Origin) → Extends words (words_on words origins)
words_on-extends words [] = Extends-refl words
words_on-extends words (first ∷ origins) =
    let more : List (List Label) = words ++ (get_or words first.group [] ++ first.label ∷ []) ∷ [] in
    Extends-trans words more (words_on more origins) ((get_or words first.group [] ++ first.label ∷ []) ∷ [], refl) (words_on-extends more origins)

length-words_on : (words : List (List Label)) (origins : List Origin) → length (words_on words origins) ≡ length words + length origins
length-words_on words [] = sym (add-zero (length words))
length-words_on words (first ∷ origins) =
    let word = get_or words first.group [] ++ first.label ∷ [] in
    omega (arith, length-words_on (words ++ word ∷ []) origins, length_push words word)

pub length-words_of : (origins : List Origin) → length (words_of origins) ≡ 1 + length origins
length-words_of origins = length-words_on ([] ∷ []) origins

-- the origin's word, and with the label the group's own
word_on : (words : List (List Label)) (origins : List Origin) (k : ℕ) (origin : Origin) → slice_get origins k ≡ Some origin → ((j : ℕ) (o : Origin) → slice_get origins j ≡ Some o → o.group < length words + j)
    → (word : List Label) × (slice_get (words_on words origins) origin.group ≡ Some word) × (slice_get (words_on words origins) (length words + k) ≡ Some (word ++ origin.label ∷ []))
word_on words [] k origin at back = absurd (let within = slice_get_within {A = Origin} [] k origin at in omega (arith, within))
word_on words (first ∷ origins) zero origin at back =
    let same : first ≡ origin = same_Some first origin at in
    let below : first.group < length words = omega (arith, back 0 first refl) in
    let word = get_or words first.group [] in
    let own = word ++ first.label ∷ [] in
    let extends = words_on-extends (words ++ own ∷ []) origins in
    subst (λ (o : Origin). (w : List Label) × (slice_get (words_on words (first ∷ origins)) o.group ≡ Some w) × (slice_get (words_on words (first ∷ origins)) (length words + 0) ≡ Some (w ++ o.label ∷ [])))
    same (
      word,
      kept_at (words ++ own ∷ []) (words_on words (first ∷ origins)) first.group word extends
          (slice_get-append_left words (own ∷ []) first.group word (slice_get-get_or words first.group [] below)),
      ap (slice_get (words_on words (first ∷ origins))) (add-zero (length words))
          ∙ kept_at (words ++ own ∷ []) (words_on words (first ∷ origins)) (length words) own extends (slice_get-push words own),
    )
word_on words (first ∷ origins) (suc k) origin at back =
    let own = get_or words first.group [] ++ first.label ∷ [] in
    let more : List (List Label) = words ++ own ∷ [] in
    let long = length_push words own in
    let found = word_on more origins k origin at (λ j o h. omega (arith, back (suc j) o h, long)) in
    (found.0, found.1, ap (slice_get (words_on more origins)) (omega (arith, long)) ∙ found.2)

pub word_of_group : (origins : List Origin) (k : ℕ) (origin : Origin) → AreBack origins → slice_get origins k ≡ Some origin
    → (word : List Label) × (slice_get (words_of origins) origin.group ≡ Some word) × (slice_get (words_of origins) (suc k) ≡ Some (word ++ origin.label ∷ []))
word_of_group origins k origin back at =
    let found = word_on ([] ∷ []) origins k origin at (λ j o h. omega (arith, back j o h)) in
    (found.0, found.1, ap (slice_get (words_of origins)) (omega arith) ∙ found.2)

pub first_word : (origins : List Origin) → slice_get (words_of origins) 0 ≡ Some []
first_word origins = kept_at ([] ∷ []) (words_of origins) 0 [] (words_on-extends ([] ∷ []) origins) refl

pub has_word : (origins : List Origin) (group : ℕ) → group ≤ length origins → (word : List Label) × (slice_get (words_of origins) group ≡ Some word)
has_word origins group within = (get_or (words_of origins) group [], slice_get-get_or (words_of origins) group [] (omega (arith, within, length-words_of origins)))

-- in words that rise
module _ (words : List (List Label)) (rising : AllPairs (λ a b. shortlex_cmp a b ≡ Less) words) where
  pub rising_at : (i j : ℕ) (a b : List Label) → i < j → slice_get words i ≡ Some a → slice_get words j ≡ Some b → shortlex_cmp a b ≡ Less
  rising_at i j a b below first second =
      ap (λ w. shortlex_cmp w b) (sym (get_or_from_slice_get words i a [] first))
      ∙ ap (shortlex_cmp (get_or words i [])) (sym (get_or_from_slice_get words j b [] second))
      ∙ rising i j [] below (slice_get_within words j b second)

  pub one_group : (i j : ℕ) (a : List Label) → slice_get words i ≡ Some a → slice_get words j ≡ Some a → i ≡ j
  one_group i j a first second = elim (cases_lt i j) [
    | inl below ↦ absurd (before_itself a (rising_at i j a a below first second))
    | inr above ↦ elim (cases_lt j i) [
      | inl under ↦ absurd (before_itself a (rising_at j i a a under second first))
      | inr same ↦ omega (arith, above, same)
    ]
  ]

-- the words after an origin was put behind the others, if it was not the last: its word is the last
pub record OpensWord (old new : List (List Label)) (word : List Label) (group : ℕ) : Type 0 where
  pub extends : Extends old new
  pub at : slice_get new group ≡ Some word
  pub last : group + 1 ≡ length new
  pub made : (other : List Label) → Contains new other → Contains old other ⊎ (other ≡ word)
  pub rising : AllPairs (λ a b. shortlex_cmp a b ≡ Less) new

module _ (origin : Origin) (old : List Origin) (word : List Label) (back : AreBack old) (rising : AllPairs (λ a b. shortlex_cmp a b ≡ Less) (words_of old))
    (at : slice_get (words_of old) origin.group ≡ Some word) (ahead : IsAhead (words_of old) word origin.label) where
  opens_again : IsLast old origin → OpensWord (words_of old) (words_of old) (word ++ origin.label ∷ []) (length old)
  opens_again last =
      let stands : slice_get old (length last.0) ≡ Some origin = ap (λ l. slice_get l (length last.0)) last.1 ∙ slice_get-push last.0 origin in
      let long : length old ≡ suc (length last.0) = omega (arith, ap length last.1, length_push last.0 origin) in
      let found = word_of_group old (length last.0) origin back stands in
      let same : found.0 ≡ word = one_at_place (words_of old) origin.group found.0 word found.1 at in
      record {
        extends = Extends-refl (words_of old);
        at = ap (slice_get (words_of old)) long ∙ found.2 ∙ ap (λ w. Some (w ++ origin.label ∷ [])) same;
        last = omega (arith, length-words_of old);
        made = λ other among. inl among;
        rising = rising;
      }

  -- a word that is the origin's and its label is the last one
  is_last_word : (k : ℕ) → slice_get (words_of old) k ≡ Some (word ++ origin.label ∷ []) → k + 1 ≡ length (words_of old)
  is_last_word k here = elim (cases_lt (k + 1) (length (words_of old))) [
    | inl more ↦
        let own = word ++ origin.label ∷ [] in
        let next = get_or (words_of old) (k + 1) [] in
        let there = slice_get-get_or (words_of old) (k + 1) [] more in
        absurd (before_back own next (rising_at (words_of old) rising k (k + 1) own next (omega arith) here there)
        (ahead next (Contains-from_place (words_of old) (k + 1) next there)))
    | inr all ↦ omega (arith, all, slice_get_within (words_of old) k (word ++ origin.label ∷ []) here)
  ]

  -- and then the origin is the last
  last_origin : (k : ℕ) → slice_get (words_of old) k ≡ Some (word ++ origin.label ∷ []) → IsLast old origin
  last_origin zero here =
      let same = one_at_place (words_of old) 0 [] (word ++ origin.label ∷ []) (first_word old) here in
      absurd (omega (arith, ap length same, length_push word origin.label))
  last_origin (suc j) here =
      let last = is_last_word (suc j) here in
      let within : j < length old = omega (arith, last, length-words_of old) in
      let other : Origin = get_or old j origin in
      let stands = slice_get-get_or old j origin within in
      let found = word_of_group old j other back stands in
      let parts = same_from_push found.0 word other.label origin.label (one_at_place (words_of old) (suc j) (found.0 ++ other.label ∷ []) (word ++ origin.label ∷ []) found.2 here) in
      let groups : other.group ≡ origin.group =
      one_group (words_of old) rising other.group origin.group word (found.1 ∙ ap Some parts.0) at in
      let same : other ≡ origin = λ i. record { group = groups i; label = parts.1 i } in (
        take j old,
        sym (take_all (j + 1) old (omega (arith, last, length-words_of old)))
            ∙ take_more old j origin within
            ∙ ap (λ o. take j old ++ o ∷ []) same,
      )

  opens_new : (IsLast old origin → ⊥) → OpensWord (words_of old) (words_of (old ++ origin ∷ [])) (word ++ origin.label ∷ []) (length (old ++ origin ∷ []))
  opens_new apart =
      let own = word ++ origin.label ∷ [] in
      let is : words_of (old ++ origin ∷ []) ≡ words_of old ++ own ∷ [] =
      words_on-push ([] ∷ []) old origin ∙ ap (λ w. words_of old ++ (w ++ origin.label ∷ []) ∷ []) (get_or_from_slice_get (words_of old) origin.group word [] at) in
      record {
        extends = (own ∷ [], is);
        at = ap (slice_get (words_of (old ++ origin ∷ []))) (omega (arith, length_push old origin, length-words_of old))
            ∙ ap (λ l. slice_get l (length (words_of old))) is
            ∙ slice_get-push (words_of old) own;
        last = omega (arith, length-words_of (old ++ origin ∷ []));
        made = λ other among. elim (Contains-push_cases (words_of old) own other (subst (λ l. Contains l other) is among)) [
          | inl earlier ↦ inl earlier
          | inr same ↦ inr (sym same)
        ];
        rising = subst (AllPairs (λ a b. shortlex_cmp a b ≡ Less)) (sym is) (all_pairs_push (λ a b. shortlex_cmp a b ≡ Less) (words_of old) own rising (λ k d within.
            before_or_same (get_or (words_of old) k d) own (ahead (get_or (words_of old) k d) (Contains-get_or (words_of old) k d within))
            (λ same. apart (last_origin k (slice_get-get_or (words_of old) k d within ∙ ap Some same)))));
      }

  pub opens_word : (new : List Origin) → Opens origin old new → OpensWord (words_of old) (words_of new) (word ++ origin.label ∷ []) (length new)
  opens_word new opens = elim opens [
    | inl same ↦ subst (λ l. OpensWord (words_of old) (words_of l) (word ++ origin.label ∷ []) (length l)) (sym same.1) (opens_again same.0)
    | inr pushed ↦ subst (λ l. OpensWord (words_of old) (words_of l) (word ++ origin.label ∷ []) (length l)) (sym pushed.1) (opens_new pushed.0)
  ]

-- origins stay back
pub AreBack-none : AreBack []
AreBack-none k origin at = absurd (let within = slice_get_within {A = Origin} [] k origin at in omega (arith, within))

pub AreBack-open : (origin : Origin) (old new : List Origin) → AreBack old → origin.group ≤ length old → Opens origin old new → AreBack new
AreBack-open origin old new back within opens = elim opens [
  | inl same ↦ subst AreBack (sym same.1) back
  | inr pushed ↦ subst AreBack (sym pushed.1) (λ k other at. elim (cases_lt k (length old)) [
    | inl earlier ↦ back k other (slice_get-get_or old k origin earlier ∙ ap Some (one_at_place (old ++ origin ∷ []) k (get_or old k origin) other
        (slice_get-append_left old (origin ∷ []) k (get_or old k origin) (slice_get-get_or old k origin earlier)) at))
    | inr last ↦
        let here : k ≡ length old = omega (arith, last, slice_get_within (old ++ origin ∷ []) k other at, length_push old origin) in
        let same : origin ≡ other = one_at_place (old ++ origin ∷ []) (length old) origin other (slice_get-push old origin) (subst (λ i. slice_get (old ++ origin ∷ []) i ≡ Some other) here at) in
        subst (λ (o : Origin). o.group ≤ k) same (omega (arith, within, here))
  ])
]

-- what a test of the last origin tells
pub IsLast-told : (origins : List Origin) (origin : Origin) → 1 ≤ length origins
    → (get_or origins (length origins - 1) (record { group = 0; label = record { 0 = 0 } })).group ≡ origin.group
    → IsTrue ((get_or origins (length origins - 1) (record { group = 0; label = record { 0 = 0 } })).label.0 == origin.label.0) ↔ IsLast origins origin
IsLast-told origins origin some groups =
    let zeroth : Origin = record { group = 0; label = record { 0 = 0 } } in
    let last : Origin = get_or origins (length origins - 1) zeroth in (
      λ told.
          let labels : last.label.0 ≡ origin.label.0 = eqb-true last.label.0 origin.label.0 told in
          let same : last ≡ origin = λ i. record { group = groups i; label = record { 0 = labels i } } in (
            take (length origins - 1) origins,
            sym (take_all (length origins - 1 + 1) origins (omega (arith, some)))
                ∙ take_more origins (length origins - 1) zeroth (omega (arith, some))
                ∙ ap (λ o. take (length origins - 1) origins ++ o ∷ []) same,
          ),
      λ is.
          let long : length origins ≡ length is.0 + 1 = ap length is.1 ∙ length_push is.0 origin in
          let same : last ≡ origin = ap (λ l. get_or l (length origins - 1) zeroth) is.1 ∙ get_or_push is.0 origin zeroth (length origins - 1) (omega (arith, long)) in
          eq-eqb last.label.0 origin.label.0 (ap (λ (o : Origin). o.label.0) same),
    )
