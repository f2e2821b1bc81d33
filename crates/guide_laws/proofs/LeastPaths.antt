-- Of the label paths that lead to a set one comes first.
use Rattle.std.proofs.Common.{◌≡◌, ◌≢◌, ℕ, ◌≤◌, ◌⊎◌, inl, inr, Less, Equal, Greater, zero, suc}
use Rattle.std.proofs.Common.{List, [], ◌∷◌, ◌++◌, length, map, refl, sym, ap, ◌∙◌, subst, arith}
use Rattle.std.specs.Ordering.{nat_cmp, ordering_then, ordering_reverse}
use Rattle.std.specs.List.{Contains}
use Rattle.std.proofs.lemmas.Bool.{cases_lt}
use Rattle.std.proofs.lemmas.List.Elements.{Contains-append_left, Contains-append_right}
use Rattle.std.proofs.lemmas.Cmp.{nat_list_cmp_total}
use Rattle.std.proofs.lemmas.Map.Lookups.{exact_bytes}
use Rattle.lore_base.specs.Bytes.{bytes_cmp}
use Rattle.lore_base.specs.Walks.{Walk, edge_of}
use Rattle.lore_base.specs.TargetSets.{LabelPath, IsTargetSet, LeadsTo}
use Rattle.lore_base.proofs.ListLaws.{AllPairs-head}
use Rattle.lore_base.proofs.MemberLaws.{Contains-none, Contains-head, Contains-tail, Contains-cases}
use Rattle.lore_base.proofs.TargetLaws.{ListsInOrder-unique}
use Rattle.lore_base.proofs.ToldLaws.{IsTold, told_same, told_both, told_some, told_bytes, passing, members_passing}
use Rattle.list_laws.proofs.AscentLaws.{IsEither, IsSetOf, some_ordered_among}
use Rattle.list_laws.proofs.OrderLaws.{same_from_cmp}
use Rattle.list_laws.proofs.MemberLaws.{Contains-map}
use Rattle.dataguide.specs.Types.{Oid, Label, Edge}
use Rattle.lore_base.specs.PathOrder.{word_cmp, ComesBefore, IsLeastPath}
use Rattle.set_steps.proofs.PairLaws.{some-member}
use Rattle.dataguide.proofs.PathOrder.{before-trans, word_total}
use Rattle.guide_laws.proofs.ListLaws.{told_some_in}
use Rattle.guide_laws.proofs.StepLaws.{target_is}
use Rattle.guide_laws.proofs.TargetSetLaws.{told_set}

-- Any two paths are in order.

same_numbers : (v w : List Label) → word_cmp v w ≡ Equal → v ≡ w
same_numbers [] [] is = refl
same_numbers [] (y ∷ w) is = absurd (let less : Less ≡ Equal = is in cc)
same_numbers (x ∷ v) [] is = absurd (let more : Greater ≡ Equal = is in cc)
same_numbers (x ∷ v) (y ∷ w) is =
    elim (nat_cmp x.0 y.0) as (λ o. nat_cmp x.0 y.0 ≡ o → ordering_then o (word_cmp v w) ≡ Equal → x ∷ v ≡ y ∷ w) [
      | Less ↦ λ first all. absurd (let less : Less ≡ Equal = all in cc)
      | Equal ↦ λ first all.
          let number = same_from_cmp x.0 y.0 first in
          let others = same_numbers v w all in
          λ i. record { 0 = number i } ∷ others i
      | Greater ↦ λ first all. absurd (let more : Greater ≡ Equal = all in cc)
    ] refl is

either_word : (v w : List Label) → IsEither (λ a b. word_cmp a b ≡ Less) v w
either_word v w = elim (word_cmp v w) as (λ o. word_cmp v w ≡ o → IsEither (λ a b. word_cmp a b ≡ Less) v w) [
  | Less ↦ λ is. inl is
  | Equal ↦ λ is. inr (inl (same_numbers v w is))
  | Greater ↦ λ is. inr (inr (word_total.antisymm w v ∙ ap ordering_reverse is))
] refl

either_name : (a b : List ℕ) → IsEither (λ x y. bytes_cmp x y ≡ Less) a b
either_name a b = elim (bytes_cmp a b) as (λ o. bytes_cmp a b ≡ o → IsEither (λ x y. bytes_cmp x y ≡ Less) a b) [
  | Less ↦ λ is. inl is
  | Equal ↦ λ is. inr (inl (exact_bytes a b is))
  | Greater ↦ λ is. inr (inr (nat_list_cmp_total.antisymm b a ∙ ap ordering_reverse is))
] refl

either_long : (a b : LabelPath) → length a.word ≡ length b.word → IsEither ComesBefore a b
either_long a b long = elim (either_name a.name b.name) [
  | inl before ↦ inl (inr (long, inl before))
  | inr name ↦ elim name [
    | inl same ↦ elim (either_word a.word b.word) [
      | inl before ↦ inl (inr (long, inr (same, before)))
      | inr word ↦ elim word [
        | inl equal ↦ inr (inl (λ i. record { name = same i; word = equal i }))
        | inr behind ↦ inr (inr (inr (sym long, inr (sym same, behind))))
      ]
    ]
    | inr behind ↦ inr (inr (inr (sym long, inl behind)))
  ]
]

pub either_path : (a b : LabelPath) → IsEither ComesBefore a b
either_path a b = elim (cases_lt (length a.word) (length b.word)) [
  | inl shorter ↦ inl (inl shorter)
  | inr not_shorter ↦ elim (cases_lt (length b.word) (length a.word)) [
    | inl longer ↦ inr (inr (inl longer))
    | inr not_longer ↦ either_long a b (omega (arith, not_shorter, not_longer))
  ]
]

-- Finitely many paths come up to a given one.

module _ (labels : List Label) where
  -- the words up to a length, each with a label in front of a shorter one
  abbrev with_each : List (List Label) → List Label → List (List Label)
  with_each words [] = []
  with_each words (label ∷ others) = map (λ word. label ∷ word) words ++ with_each words others

  abbrev words_up_to : ℕ → List (List Label)
  words_up_to zero = [] ∷ []
  words_up_to (suc n) = [] ∷ with_each (words_up_to n) labels

  with_has : (words : List (List Label)) (some : List Label) (label : Label) (word : List Label)
      → Contains some label → Contains words word → Contains (with_each words some) (label ∷ word)
  with_has words [] label word at there = absurd (Contains-none label at)
  with_has words (first ∷ others) label word at there = elim (Contains-cases first others label at) [
    | inl same ↦ subst (λ (l : Label). Contains (with_each words (first ∷ others)) (l ∷ word)) same
        (Contains-append_left (map (λ w. first ∷ w) words) (with_each words others) (first ∷ word)
        (Contains-map (λ (w : List Label). first ∷ w) words word there))
    | inr later ↦ Contains-append_right (map (λ w. first ∷ w) words) (with_each words others) (label ∷ word)
        (with_has words others label word later there)
  ]

  words_have : (n : ℕ) (word : List Label) → ((label : Label) → Contains word label → Contains labels label)
      → length word ≤ n → Contains (words_up_to n) word
  words_have zero [] each short = Contains-head [] []
  words_have zero (label ∷ word) each short = absurd (omega (arith, short))
  words_have (suc n) [] each short = Contains-head [] (with_each (words_up_to n) labels)
  words_have (suc n) (label ∷ word) each short =
      Contains-tail [] (with_each (words_up_to n) labels) (label ∷ word)
      (with_has (words_up_to n) labels label word (each label (Contains-head label word))
      (words_have n word (λ other there. each other (Contains-tail label word other there)) (omega (arith, short))))

  -- paths from names along these words
  abbrev paths_from : List (List ℕ × Oid) → List (List Label) → List LabelPath
  paths_from [] words = []
  paths_from (named ∷ names) words =
      map (λ (word : List Label). record { name = named.0; word = word }) words ++ paths_from names words

  paths_have : (names : List (List ℕ × Oid)) (words : List (List Label)) (path : LabelPath) (start : Oid)
      → Contains names (path.name, start) → Contains words path.word → Contains (paths_from names words) path
  paths_have [] words path start named there = absurd (Contains-none (path.name, start) named)
  paths_have (first ∷ names) words path start named there =
      let along : List ℕ → List Label → LabelPath = λ name word. record { name = name; word = word } in
      elim (Contains-cases first names (path.name, start) named) [
        | inl same ↦ Contains-append_left (map (along first.0) words) (paths_from names words) path
            (subst (λ (n : List ℕ). Contains (map (along first.0) words) (along n path.word))
            (ap (λ (n : List ℕ × Oid). n.0) same)
            (Contains-map (along first.0) words path.word there))
        | inr later ↦ Contains-append_right (map (along first.0) words) (paths_from names words) path
            (paths_have names words path start later there)
      ]

-- the labels of a word that is walked are those of edges
walked_labels : (edges : List Edge) (word : List Label) (from to : Oid) → Walk edges from word to
    → (label : Label) → Contains word label → Contains (map (λ edge. edge.label) edges) label
walked_labels edges [] from to walked label at = absurd (Contains-none label at)
walked_labels edges (first ∷ word) from to walked label at = elim (Contains-cases first word label at) [
  | inl same ↦ subst (λ (l : Label). Contains (map (λ (edge : Edge). edge.label) edges) l) same
      (Contains-map (λ (edge : Edge). edge.label) edges (edge_of from first walked.0) walked.1)
  | inr later ↦ walked_labels edges word walked.0 to walked.2 label later
]

module _ (names : List (List ℕ × Oid)) (edges : List Edge) (set : List Oid) where
  told_target : (start : Oid) (word : List Label) → IsTold (IsTargetSet edges start word set)
  told_target start word =
      let target = target_is edges start word in
      told_same
      (λ (same : target.0 ≡ set). subst (IsTargetSet edges start word) same target.1)
      (λ (is : IsTargetSet edges start word set).
      ListsInOrder-unique (Walk edges start word) target.0 set target.1 is)
      (told_set target.0 set)

  -- it is told whether a path leads to the set
  told_leads : (path : LabelPath) → IsTold (LeadsTo names edges path set)
  told_leads path =
      told_same
      (λ (some : (named : List ℕ × Oid) × Contains names named
      × ((named.0 ≡ path.name) × (IsTargetSet edges named.1 path.word set × (set ≢ [])))). record {
        start = some.0.1;
        named = subst (λ (n : List ℕ). Contains names (n, some.0.1)) some.2.0 some.1;
        target = some.2.1.0;
        some = some.2.1.1;
      })
      (λ (leads : LeadsTo names edges path set).
      ((path.name, leads.start), leads.named, (refl, (leads.target, leads.some))))
      (told_some
      (λ (named : List ℕ × Oid). (named.0 ≡ path.name) × (IsTargetSet edges named.1 path.word set × (set ≢ [])))
      (λ named. told_both (told_bytes named.0 path.name)
      (told_both (told_target named.1 path.word) (told_some_in set))) names)

  -- the paths up to a length that lead to the set
  abbrev short_paths : ℕ → List LabelPath
  short_paths n =
      passing (λ path. LeadsTo names edges path set) told_leads
      (paths_from (map (λ edge. edge.label) edges) names (words_up_to (map (λ edge. edge.label) edges) n))

  short_has : (n : ℕ) (path : LabelPath) → LeadsTo names edges path set → length path.word ≤ n
      → Contains (short_paths n) path
  short_has n path leads short =
      let labels = map (λ (edge : Edge). edge.label) edges in
      let one = some-member set leads.some in
      let word = words_have labels n path.word
      (walked_labels edges path.word leads.start one.0 ((leads.target.exact one.0).0 one.1)) short in
      (members_passing (λ path. LeadsTo names edges path set) told_leads
      (paths_from labels names (words_up_to labels n)) path).1
      (paths_have labels names (words_up_to labels n) path leads.start leads.named word, leads)

  -- the first of these paths in order comes before all that lead to the set
  first_is : (n : ℕ) (path first : LabelPath) (others : List LabelPath) → length path.word ≡ n
      → Contains (short_paths n) path → IsSetOf ComesBefore (short_paths n) (first ∷ others)
      → IsLeastPath names edges first set
  first_is n path first others long there is =
      let labels = map (λ (edge : Edge). edge.label) edges in
      let up_to : (other : LabelPath) → Contains (short_paths n) other → (first ≡ other) ⊎ ComesBefore first other =
      λ other at. elim (Contains-cases first others other (is.kept other at)) [
        | inl same ↦ inl same
        | inr later ↦ inr (AllPairs-head ComesBefore first others is.ascend other later)
      ] in
      let short : length first.word ≤ n = elim (up_to path there) [
        | inl same ↦ omega (arith, long, ap (λ (p : LabelPath). length p.word) same)
        | inr before ↦ elim before [
          | inl shorter ↦ omega (arith, long, shorter)
          | inr equal ↦ omega (arith, long, equal.0)
        ]
      ] in
      record {
        leads = ((members_passing (λ p. LeadsTo names edges p set) told_leads
            (paths_from labels names (words_up_to labels n)) first).0
            (is.only first (Contains-head first others))).1;
        least = λ other led. elim (cases_lt n (length other.word)) [
          | inl longer ↦ inr (inl (omega (arith, short, longer)))
          | inr not_longer ↦ up_to other (short_has n other led (omega (arith, not_longer)))
        ];
      }

  least_of : (path : LabelPath) (sorted : List LabelPath) → Contains (short_paths (length path.word)) path
      → IsSetOf ComesBefore (short_paths (length path.word)) sorted
      → (least : LabelPath) × IsLeastPath names edges least set
  least_of path [] there is = absurd (Contains-none path (is.kept path there))
  least_of path (first ∷ others) there is =
      (first, first_is (length path.word) path first others refl there is)

  pub some_least : (path : LabelPath) → LeadsTo names edges path set
      → (least : LabelPath) × IsLeastPath names edges least set
  some_least path leads =
      let n = length path.word in
      let sorted = some_ordered_among ComesBefore before-trans (short_paths n)
      (λ a b at_a at_b. either_path a b) in
      least_of path sorted.0 (short_has n path leads (omega arith)) sorted.1
