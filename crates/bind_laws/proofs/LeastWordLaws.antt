-- Least words: whether a path spells a word can be told, short walks are a finite list, and a least one of those that are spelled exists.
use Rattle.std.proofs.Common.{◌≡◌, ℕ, zero, suc, ◌<◌, ◌≤◌, ◌⊎◌, inl, inr, List, [], ◌∷◌, length, refl, sym, ap, subst, ◌∙◌, arith}
use Rattle.std.specs.List.{Contains}
use Rattle.std.specs.Cmp.{nat_cmp_is}
use Rattle.std.specs.Cmp.Lexicographic.{slice_cmp}
use Rattle.std.specs.Ordering.{nat_cmp, ordering_then, ordering_reverse}
use Rattle.std.specs.declared.cmp.Ordering.{Ordering}
use Rattle.std.specs.declared.cmp.Ordering.TheVariants.{Less, Equal, Greater}
use Rattle.std.proofs.lemmas.Bool.{cases_lt}
use Rattle.lore_base.specs.declared.edges.Oid.{Oid}
use Rattle.lore_base.specs.declared.edges.Label.{Label}
use Rattle.lore_base.specs.declared.edges.Edge.{Edge}
use Rattle.lore_base.specs.Walks.{Walk, oid_of, edge_of}
use Rattle.lore_base.specs.Paths.{PathTree, Spells, Reaches}
use Rattle.lore_base.specs.LeastWords.{label_cmp, shortlex_cmp, IsUpTo, IsLeast, IsSpelledWalk, HasSomeLeastWord}
use Rattle.lore_base.proofs.WalkLaws.{Walk-within}
use Rattle.lore_base.proofs.MemberLaws.{Contains-none, Contains-tail, Contains-head, Contains-cases}
use Rattle.lore_base.proofs.LeastWordLaws.{IsUpTo-refl, IsUpTo-trans, IsUpTo-same, before_up_to}
use Rattle.lorel_bound.specs.CellOrder.{word_total}
use Rattle.lore_base.proofs.ToldLaws.{IsTold, told_same, told_oid}
use Rattle.lorel_bound.proofs.ListedLaws.{IsListed, listed_members, listed_one, listed_none, listed_when, listed_same, listed_either, listed_over, listed_where, told_listed}
use Rattle.bind_laws.proofs.ReachedLaws.{listed_reached}

-- ---- a word as a graph of one line
-- each object has the number of labels that follow it
abbrev line : List Label → List Edge
line [] = []
line (label ∷ word) = edge_of (oid_of (length (label ∷ word))) label (oid_of (length word)) ∷ line word

-- an edge of the line leads to a smaller number, and starts at none above the line's own
line_falls : (word : List Label) (edge : Edge) → Contains (line word) edge
    → (edge.child.0 < edge.parent.0) × (edge.parent.0 ≤ length word)
line_falls [] edge there = absurd (Contains-none edge there)
line_falls (label ∷ word) edge there =
    elim (Contains-cases (edge_of (oid_of (length (label ∷ word))) label (oid_of (length word))) (line word) edge there) [
      | inl same ↦
          let parent = ap (λ (e : Edge). e.parent.0) same in
          let child = ap (λ (e : Edge). e.child.0) same in
          (omega (arith, parent, child), omega (arith, parent))
      | inr later ↦ (let falls = line_falls word edge later in (falls.0, omega (arith, falls.1)))
    ]

-- the word is walked along its line
line_walked : (word : List Label) → Walk (line word) (oid_of (length word)) word (oid_of 0)
line_walked [] = refl
line_walked (label ∷ word) =
    let first = edge_of (oid_of (length (label ∷ word))) label (oid_of (length word)) in (
      oid_of (length word),
      Contains-head first (line word),
      Walk-within (line word) (first ∷ line word) (λ edge there. Contains-tail first (line word) edge there) (oid_of (length word)) word (oid_of 0) (line_walked word),
    )

-- from no later object on the first edge is not walked
line_behind : (label : Label) (word : List Label) (x : Oid) (walked : List Label) (y : Oid) → x.0 ≤ length word
    → Walk (line (label ∷ word)) x walked y → Walk (line word) x walked y
line_behind label word x [] y low same = same
line_behind label word x (next ∷ walked) y low walk =
    elim (Contains-cases (edge_of (oid_of (length (label ∷ word))) label (oid_of (length word))) (line word) (edge_of x next walk.0) walk.1) [
      | inl same ↦ (let parent = ap (λ (e : Edge). e.parent.0) same in absurd (omega (arith, parent, low)))
      | inr later ↦
          let falls = line_falls word (edge_of x next walk.0) later in
          (walk.0, later, line_behind label word walk.0 walked y (omega (arith, falls.0, falls.1)) walk.2)
    ]

-- and no other word is walked to its end
line_only : (word walked : List Label) → Walk (line word) (oid_of (length word)) walked (oid_of 0) → walked ≡ word
line_only [] [] walk = refl
line_only [] (next ∷ walked) walk = absurd (Contains-none (edge_of (oid_of 0) next walk.0) walk.1)
line_only (label ∷ word) [] walk = (let number = ap (λ (oid : Oid). oid.0) walk in absurd (omega (arith, number)))
line_only (label ∷ word) (next ∷ walked) walk =
    elim (Contains-cases (edge_of (oid_of (length (label ∷ word))) label (oid_of (length word))) (line word) (edge_of (oid_of (length (label ∷ word))) next walk.0) walk.1) [
      | inl same ↦
          let first : label ≡ next = ap (λ (e : Edge). e.label) same in
          let child : oid_of (length word) ≡ walk.0 = ap (λ (e : Edge). e.child) same in
          let behind = line_behind label word (oid_of (length word)) walked (oid_of 0) (omega arith)
          (subst (λ (o : Oid). Walk (line (label ∷ word)) o walked (oid_of 0)) (sym child) walk.2) in
          let rest = line_only word walked behind in
          λ i. sym first i ∷ rest i
      | inr later ↦ (let falls = line_falls word (edge_of (oid_of (length (label ∷ word))) next walk.0) later in absurd (omega (arith, falls.1)))
    ]

-- whether a path spells a word
pub told_spelled : (labels : List (List ℕ)) (path : PathTree) (word : List Label) → IsTold (Spells labels path word)
told_spelled labels path word =
    told_same
    (λ reached. subst (Spells labels path) (line_only word reached.0 reached.2) reached.1)
    (λ spelled. (word, spelled, line_walked word))
    (told_listed told_oid (Reaches labels (line word) path (oid_of (length word))) (listed_reached labels (line word) path (oid_of (length word))) (oid_of 0))

-- ---- walks of few labels
-- a word of so many labels at most, walked from an object to another
abbrev IsShortWalk : List Edge → Oid → ℕ → Oid → List Label → Type 0
IsShortWalk edges y zero x word = (x ≡ y) × ([] ≡ word)
IsShortWalk edges y (suc count) x word =
    ((x ≡ y) × ([] ≡ word))
    ⊎ ((edge : Edge) × (Contains edges edge × (edge.parent ≡ x))
    × ((rest : List Label) × IsShortWalk edges y count edge.child rest × (edge.label ∷ rest ≡ word)))

module _ (edges : List Edge) (y : Oid) where
  -- they are the walks of so many labels at most, and a finite list
  short_walked : (count : ℕ) (x : Oid) (word : List Label) → IsShortWalk edges y count x word → Walk edges x word y
  short_walked zero x word short = subst (λ (w : List Label). Walk edges x w y) short.1 short.0
  short_walked (suc count) x word (inl none) = subst (λ (w : List Label). Walk edges x w y) none.1 none.0
  short_walked (suc count) x word (inr more) =
      let edge = more.0 in
      let rest = more.2 in
      let step : Contains edges (edge_of x edge.label edge.child) =
      subst (λ (o : Oid). Contains edges (edge_of o edge.label edge.child)) more.1.1 more.1.0 in
      subst (λ (w : List Label). Walk edges x w y) rest.2 (edge.child, step, short_walked count edge.child rest.0 rest.1)

  walked_short : (count : ℕ) (x : Oid) (word : List Label) → length word ≤ count → Walk edges x word y → IsShortWalk edges y count x word
  walked_short zero x [] few walk = (walk, refl)
  walked_short zero x (label ∷ word) few walk = absurd (omega (arith, few))
  walked_short (suc count) x [] few walk = inl (walk, refl)
  walked_short (suc count) x (label ∷ word) few walk =
      inr (edge_of x label walk.0, (walk.1, refl), (word, walked_short count walk.0 word (omega (arith, few)) walk.2, refl))

  listed_short : (count : ℕ) (x : Oid) → IsListed (IsShortWalk edges y count x)
  listed_short zero x = listed_when (x ≡ y) (told_oid x y) []
  listed_short (suc count) x =
      listed_either (λ word. (x ≡ y) × ([] ≡ word))
      (λ word. (edge : Edge) × (Contains edges edge × (edge.parent ≡ x))
      × ((rest : List Label) × IsShortWalk edges y count edge.child rest × (edge.label ∷ rest ≡ word)))
      (listed_when (x ≡ y) (told_oid x y) [])
      (listed_over (λ (edge : Edge). Contains edges edge × (edge.parent ≡ x))
      (λ edge word. (rest : List Label) × IsShortWalk edges y count edge.child rest × (edge.label ∷ rest ≡ word))
      (listed_where (Contains edges) (λ edge. edge.parent ≡ x) (listed_members edges) (λ edge. told_oid edge.parent x))
      (λ edge. listed_over (IsShortWalk edges y count edge.child) (λ rest word. edge.label ∷ rest ≡ word) (listed_short count edge.child) (λ rest. listed_one (edge.label ∷ rest))))

-- ---- words in order
-- a shorter word comes first
shorter_up_to : (a b : List Label) → length a < length b → IsUpTo a b
shorter_up_to a b short =
    let lengths : nat_cmp (length a) (length b) ≡ Less = sym (nat_cmp_is (length a) (length b) Less short) in
    before_up_to a b (ap (λ (o : Ordering). ordering_then o (slice_cmp label_cmp a b)) lengths)

-- of two words one is no later than the other
either_up_to : (a b : List Label) → IsUpTo a b ⊎ IsUpTo b a
either_up_to a b = by (shortlex_cmp a b) refl
  where
    by : (o : Ordering) → shortlex_cmp a b ≡ o → IsUpTo a b ⊎ IsUpTo b a
    by Less is = inl (λ later. cc)
    by Equal is = inl (λ later. cc)
    by Greater is = inr (before_up_to b a (word_total.antisymm b a ∙ ap ordering_reverse is))

-- a list of words has a least one
least_member : (first : List Label) (others : List (List Label))
    → (least : List Label) × Contains (first ∷ others) least × ((word : List Label) → Contains (first ∷ others) word → IsUpTo least word)
least_member first [] = (
  first,
  Contains-head first [],
  λ word there. elim (Contains-cases first [] word there) [
    | inl same ↦ subst (IsUpTo first) same (IsUpTo-refl first)
    | inr none ↦ absurd (Contains-none word none)
  ],
)
least_member first (next ∷ others) =
    let rest = least_member next others in
    elim (either_up_to first rest.0) [
      | inl up ↦ (
        first,
        Contains-head first (next ∷ others),
        λ word there. elim (Contains-cases first (next ∷ others) word there) [
          | inl same ↦ subst (IsUpTo first) same (IsUpTo-refl first)
          | inr later ↦ IsUpTo-trans first rest.0 word up (rest.2 word later)
        ],
      )
      | inr down ↦ (
        rest.0,
        Contains-tail first (next ∷ others) rest.0 rest.1,
        λ word there. elim (Contains-cases first (next ∷ others) word there) [
          | inl same ↦ subst (IsUpTo rest.0) same down
          | inr later ↦ rest.2 word later
        ],
      )
    ]

-- where words that pass can be listed up to the length of one of them, a least one passes
some_least : (Passes Short : List Label → Type 0) → IsListed Short → ((word : List Label) → Short word → Passes word)
    → (known : List Label) → Passes known → ((word : List Label) → Passes word → length word ≤ length known → Short word)
    → (word : List Label) × IsLeast Passes word
some_least Passes Short ([], lists) to known passes from = absurd (Contains-none known ((lists known).1 (from known passes (omega arith))))
some_least Passes Short (first ∷ others, lists) to known passes from =
    let least = least_member first others in
    let up = least.2 known ((lists known).1 (from known passes (omega arith))) in (
      least.0,
      record {
        passes = to least.0 ((lists least.0).0 least.1);
        least = λ word own. elim (cases_lt (length known) (length word)) [
          | inl longer ↦ IsUpTo-trans least.0 known word up (shorter_up_to known word longer)
          | inr short ↦ least.2 word ((lists word).1 (from word own (omega (arith, short))))
        ];
      },
    )

pub has_some_least_word : HasSomeLeastWord
has_some_least_word labels edges path x y reached =
    let count = length reached.0 in
    let short = IsShortWalk edges y count x in
    some_least (IsSpelledWalk labels edges path x y) (λ word. short word × Spells labels path word)
    (listed_where short (Spells labels path) (listed_short edges y count x) (told_spelled labels path))
    (λ word is. (is.1, short_walked edges y count x word is.0))
    reached.0 (reached.1, reached.2)
    (λ word is few. (walked_short edges y count x word few is.1, is.0))

-- the least word of a path from an object to another, where it has one
pub listed_least : (labels : List (List ℕ)) (edges : List Edge) (path : PathTree) (x y : Oid) → IsListed (IsLeast (IsSpelledWalk labels edges path x y))
listed_least labels edges path x y =
    let passes = IsSpelledWalk labels edges path x y in
    elim (told_listed told_oid (Reaches labels edges path x) (listed_reached labels edges path x) y) [
      | inl reached ↦
          let least = has_some_least_word labels edges path x y reached in
          listed_same (λ word. least.0 ≡ word) (IsLeast passes)
          (λ word. (
            λ same. subst (IsLeast passes) same least.1,
            λ is. IsUpTo-same least.0 word (least.1.least word is.passes) (is.least least.0 least.1.passes),
          ))
          (listed_one least.0)
      | inr none ↦ listed_none (IsLeast passes) (λ word is. none (word, is.passes.0, is.passes.1))
    ]
