-- What a path reaches can be listed: by the form of the path, and where a part is repeated by the closure of what it reaches.
use Rattle.std.proofs.Common.{◌≡◌, ℕ, zero, suc, ◌⊎◌, inl, inr, ◌↔◌, List, [], ◌∷◌, ◌++◌, map, Option, Some, None, refl, sym, ap, subst, ◌∙◌}
use Rattle.std.specs.List.{Contains, slice_get}
use Rattle.std.proofs.lemmas.List.Elements.{Contains-append_left, Contains-append_right, Contains-append_cases}
use Rattle.lore_base.specs.declared.edges.Oid.{Oid}
use Rattle.lore_base.specs.declared.edges.Label.{Label}
use Rattle.lore_base.specs.declared.edges.Edge.{Edge}
use Rattle.lore_base.specs.declared.paths.Pattern.{Pattern}
use Rattle.lore_base.specs.declared.paths.Pattern.TheVariants.{Plain, Wild}
use Rattle.lore_base.specs.Walks.{Walk, edge_of}
use Rattle.lore_base.specs.Wildcards.{IsMatched, label_sign, characters}
use Rattle.lore_base.specs.Paths as p
use Rattle.lore_base.specs.Paths.{PathTree, PathTrees, Fits, Times, Spells, SpellInTurn, SomeSpells, Reaches}
use Rattle.lore_base.proofs.WalkLaws.{Walk-append, Walk-split}
use Rattle.lore_base.proofs.MemberLaws.{Contains-none, Contains-tail, Contains-head, Contains-cases, Contains-same}
use Rattle.lore_base.proofs.ToldLaws.{IsTold, told_both, told_member, told_oid, told_bytes}
use Rattle.list_laws.proofs.MemberLaws.{Contains-map}
use Rattle.lorel_bound.proofs.MatchedLaws.{told_stand}
use Rattle.lorel_bound.proofs.ListedLaws.{IsListed}

-- ---- whether a label fits a pattern
told_text : (found : Option (List ℕ)) (text : List ℕ) → IsTold (found ≡ Some text)
told_text None text = inr (λ h. cc)
told_text (Some other) text = elim (told_bytes other text) [
  | inl e ↦ inl (ap (λ (t : List ℕ). Some t) e)
  | inr e ↦ inr (λ h. let same : other ≡ text = cc in e same)
]

told_wild : (found : Option (List ℕ)) (pattern : List ℕ) → IsTold ((text : List ℕ) × (found ≡ Some text) × IsMatched pattern text)
told_wild None pattern = inr (λ h. let is : None ≡ Some h.0 = h.1 in cc)
told_wild (Some text) pattern = elim (told_stand (map label_sign (characters pattern)) (characters text)) [
  | inl h ↦ inl (text, refl, h)
  | inr none ↦ inr (λ h.
      let is : Some text ≡ Some h.0 = h.1 in
      let same : h.0 ≡ text = cc in
      none (subst (IsMatched pattern) same h.2))
]

told_fits : (labels : List (List ℕ)) (pattern : Pattern) (label : Label) → IsTold (Fits labels pattern label)
told_fits labels (Plain text) label = told_text (slice_get labels label.0) text
told_fits labels (Wild pattern) label = told_wild (slice_get labels label.0) pattern

-- ---- lists of what a relation leads to from any list of objects
abbrev IsImage : (Oid → Oid → Type 0) → List Oid → List Oid → Type 0
IsImage R xs ys = (y : Oid) → Contains ys y ↔ ((x : Oid) × Contains xs x × R x y)

abbrev HasImages : (Oid → Oid → Type 0) → Type 0
HasImages R = (xs : List Oid) → (ys : List Oid) × IsImage R xs ys

images_same : (R Q : Oid → Oid → Type 0) → ((x y : Oid) → R x y ↔ Q x y) → HasImages R → HasImages Q
images_same R Q same images xs =
    let image = images xs in (
      image.0,
      λ y. (
        λ h. let from = (image.1 y).0 h in (from.0, from.1, (same from.0 y).0 from.2),
        λ h. (image.1 y).1 (h.0, h.1, (same h.0 y).1 h.2),
      ),
    )

images_none : HasImages (λ x y. ⊥)
images_none xs = ([], λ y. (λ h. absurd (Contains-none y h), λ h. absurd h.2))

images_self : HasImages (λ x y. x ≡ y)
images_self xs = (xs, λ y. (λ h. (y, h, refl), λ h. Contains-same xs h.0 y h.2 h.1))

images_either : (R Q : Oid → Oid → Type 0) → HasImages R → HasImages Q → HasImages (λ x y. R x y ⊎ Q x y)
images_either R Q firsts seconds xs =
    let first = firsts xs in
    let second = seconds xs in (
      first.0 ++ second.0,
      λ y. (
        λ h. elim (Contains-append_cases first.0 second.0 y h) [
          | inl left ↦ (let from = (first.1 y).0 left in (from.0, from.1, inl from.2))
          | inr right ↦ (let from = (second.1 y).0 right in (from.0, from.1, inr from.2))
        ],
        λ h. elim h.2 [
          | inl left ↦ Contains-append_left first.0 second.0 y ((first.1 y).1 (h.0, h.1, left))
          | inr right ↦ Contains-append_right first.0 second.0 y ((second.1 y).1 (h.0, h.1, right))
        ],
      ),
    )

abbrev Then : (Oid → Oid → Type 0) → (Oid → Oid → Type 0) → Oid → Oid → Type 0
Then R Q x y = (z : Oid) × R x z × Q z y

images_then : (R Q : Oid → Oid → Type 0) → HasImages R → HasImages Q → HasImages (Then R Q)
images_then R Q firsts seconds xs =
    let first = firsts xs in
    let second = seconds first.0 in (
      second.0,
      λ y. (
        λ h.
            let last = (second.1 y).0 h in
            let from = (first.1 last.0).0 last.1 in
            (from.0, from.1, (last.0, from.2, last.2)),
        λ h. (second.1 y).1 (h.2.0, (first.1 h.2.0).1 (h.0, h.1, h.2.1), h.2.2),
      ),
    )

-- ---- steps one after another
abbrev Chain : (Oid → Oid → Type 0) → ℕ → Oid → Oid → Type 0
Chain R zero x y = x ≡ y
Chain R (suc count) x y = (z : Oid) × R x z × Chain R count z y

abbrev Leads : (Oid → Oid → Type 0) → Oid → Oid → Type 0
Leads R x y = (count : ℕ) × Chain R count x y

module _ (R : Oid → Oid → Type 0) where
  chain_push : (count : ℕ) (x z y : Oid) → Chain R count x z → R z y → Chain R (suc count) x y
  chain_push zero x z y same last = (y, subst (λ (o : Oid). R o y) (sym same) last, refl)
  chain_push (suc count) x z y chain last = (chain.0, chain.1, chain_push count chain.0 z y chain.2 last)

  chain_then : (count : ℕ) (x z y : Oid) → Chain R count x z → Leads R z y → Leads R x y
  chain_then zero x z y same leads = (leads.0, subst (λ (o : Oid). Chain R leads.0 o y) (sym same) leads.1)
  chain_then (suc count) x z y chain leads =
      let rest = chain_then count chain.0 z y chain.2 leads in
      (suc rest.0, (chain.0, chain.1, rest.1))

  -- what holds at the start and is kept by each step holds at the end
  chain_along : (P : Oid → Type 0) → ((a b : Oid) → P a → R a b → P b) → (count : ℕ) (x y : Oid) → Chain R count x y → P x → P y
  chain_along P keeps zero x y same start = subst P same start
  chain_along P keeps (suc count) x y chain start = chain_along P keeps count chain.0 y chain.2 (keeps x chain.0 start chain.1)

  -- steps that another relation has too, as long as what holds at the start holds
  chain_within : (Q : Oid → Oid → Type 0) (P : Oid → Type 0) → ((a b : Oid) → P a → R a b → P b × Q a b)
      → (count : ℕ) (x y : Oid) → Chain R count x y → P x → Chain Q count x y
  chain_within Q P keeps zero x y same start = same
  chain_within Q P keeps (suc count) x y chain start =
      let next = keeps x chain.0 start chain.1 in
      (chain.0, next.1, chain_within Q P keeps count chain.0 y chain.2 next.0)

  image_start : (xs ys : List Oid) → IsImage (Leads R) xs ys → (x : Oid) → Contains xs x → Contains ys x
  image_start xs ys image x here = (image x).1 (x, here, (zero, refl))

  image_next : (xs ys : List Oid) → IsImage (Leads R) xs ys → (a b : Oid) → Contains ys a → R a b → Contains ys b
  image_next xs ys image a b here step =
      let from = (image a).0 here in
      (image b).1 (from.0, from.1, (suc from.2.0, chain_push from.2.0 from.0 a b from.2.1 step))

-- ---- the closure of a list under pairs
abbrev Paired : List (Oid × Oid) → Oid → Oid → Type 0
Paired pairs a b = Contains pairs (a, b)

module _ (pair : Oid × Oid) (pairs : List (Oid × Oid)) where
  leads_more : (x y : Oid) → Leads (Paired pairs) x y → Leads (Paired (pair ∷ pairs)) x y
  leads_more x y leads = (
    leads.0,
    chain_within (Paired pairs) (Paired (pair ∷ pairs)) (λ o. Unit {0})
        (λ a b here step. (tt, Contains-tail pair pairs (a, b) step)) leads.0 x y leads.1 tt,
  )

  pair_leads : (a b : Oid) → pair ≡ (a, b) → Paired (pair ∷ pairs) a b
  pair_leads a b same = Contains-same (pair ∷ pairs) pair (a, b) same (Contains-head pair pairs)

  -- a pair that begins nowhere in the closure
  closed_without : (xs ys : List Oid) → IsImage (Leads (Paired pairs)) xs ys → (Contains ys pair.0 → ⊥) → IsImage (Leads (Paired (pair ∷ pairs))) xs ys
  closed_without xs ys image apart y = (
    λ h. let from = (image y).0 h in (from.0, from.1, leads_more from.0 y from.2),
    λ h. chain_along (Paired (pair ∷ pairs)) (Contains ys)
        (λ a b here step. elim (Contains-cases pair pairs (a, b) step) [
          | inl same ↦ absurd (apart (Contains-same ys a pair.0 (sym (ap (λ (p : Oid × Oid). p.0) same)) here))
          | inr old ↦ image_next (Paired pairs) xs ys image a b here old
        ])
        h.2.0 h.0 y h.2.1 (image_start (Paired pairs) xs ys image h.0 h.1),
  )

  -- a pair that begins in the closure, and what its end leads to
  closed_with : (xs ys more : List Oid) → IsImage (Leads (Paired pairs)) xs ys → Contains ys pair.0 → IsImage (Leads (Paired pairs)) (pair.1 ∷ []) more
      → IsImage (Leads (Paired (pair ∷ pairs))) xs (ys ++ more)
  closed_with xs ys more image there behind y = (
    λ h. elim (Contains-append_cases ys more y h) [
      | inl old ↦ (let from = (image y).0 old in (from.0, from.1, leads_more from.0 y from.2))
      | inr new ↦ (
          let from = (image pair.0).0 there in
          let last = (behind y).0 new in
          let end : pair.1 ≡ last.0 = elim (Contains-cases pair.1 [] last.0 last.1) [ inl same ↦ same | inr none ↦ absurd (Contains-none last.0 none) ] in
          let rest = leads_more last.0 y last.2 in
          let step : Paired (pair ∷ pairs) pair.0 last.0 = pair_leads pair.0 last.0 (λ i. (pair.0, end i)) in
          let front = leads_more from.0 pair.0 from.2 in
          (from.0, from.1, chain_then (Paired (pair ∷ pairs)) front.0 from.0 pair.0 y front.1 (suc rest.0, (last.0, step, rest.1))))
    ],
    λ h. chain_along (Paired (pair ∷ pairs)) (Contains (ys ++ more))
        (λ a b here step. elim (Contains-cases pair pairs (a, b) step) [
          | inl same ↦ Contains-append_right ys more b
              (Contains-same more pair.1 b (ap (λ (p : Oid × Oid). p.1) same)
              (image_start (Paired pairs) (pair.1 ∷ []) more behind pair.1 (Contains-head pair.1 [])))
          | inr old ↦ elim (Contains-append_cases ys more a here) [
            | inl left ↦ Contains-append_left ys more b (image_next (Paired pairs) xs ys image a b left old)
            | inr right ↦ Contains-append_right ys more b (image_next (Paired pairs) (pair.1 ∷ []) more behind a b right old)
          ]
        ])
        h.2.0 h.0 y h.2.1 (Contains-append_left ys more h.0 (image_start (Paired pairs) xs ys image h.0 h.1)),
  )

closed : (pairs : List (Oid × Oid)) → HasImages (Leads (Paired pairs))
closed [] xs = (
  xs,
  λ y. (
    λ h. (y, h, (zero, refl)),
    λ h. chain_along (Paired []) (Contains xs) (λ a b here step. absurd (Contains-none (a, b) step)) h.2.0 h.0 y h.2.1 h.1,
  ),
)
closed (pair ∷ pairs) xs =
    let image = closed pairs xs in
    elim (told_member told_oid image.0 pair.0) [
      | inr apart ↦ (image.0, closed_without pair pairs xs image.0 image.1 apart)
      | inl there ↦ (
          let behind = closed pairs (pair.1 ∷ []) in
          (image.0 ++ behind.0, closed_with pair pairs xs image.0 behind.0 image.1 there behind.1))
    ]

-- ---- a relation as pairs, on the objects of a list
abbrev pairs_from : Oid → List Oid → List (Oid × Oid)
pairs_from x ys = map (λ y. (x, y)) ys

paired_with : (x : Oid) (ys : List Oid) (a b : Oid) → Paired (pairs_from x ys) a b ↔ ((x ≡ a) × Contains ys b)
paired_with x [] a b = (λ h. absurd (Contains-none {X = Oid × Oid} (a, b) h), λ h. absurd (Contains-none b h.1))
paired_with x (y ∷ ys) a b = (
  λ h. elim (Contains-cases (x, y) (pairs_from x ys) (a, b) h) [
    | inl same ↦ (ap (λ (p : Oid × Oid). p.0) same, Contains-same (y ∷ ys) y b (ap (λ (p : Oid × Oid). p.1) same) (Contains-head y ys))
    | inr later ↦ (let rest = (paired_with x ys a b).0 later in (rest.0, Contains-tail y ys b rest.1))
  ],
  λ h. elim (Contains-cases y ys b h.1) [
    | inl same ↦ Contains-same ((x, y) ∷ pairs_from x ys) (x, y) (a, b) (λ i. (h.0 i, same i)) (Contains-head (x, y) (pairs_from x ys))
    | inr later ↦ Contains-tail (x, y) (pairs_from x ys) (a, b) ((paired_with x ys a b).1 (h.0, later))
  ],
)

pairs_on : (R : Oid → Oid → Type 0) → HasImages R → (nodes : List Oid)
    → (pairs : List (Oid × Oid)) × ((a b : Oid) → Paired pairs a b ↔ (Contains nodes a × R a b))
pairs_on R images [] = ([], λ a b. (λ h. absurd (Contains-none (a, b) h), λ h. absurd (Contains-none a h.0)))
pairs_on R images (x ∷ nodes) =
    let image = images (x ∷ []) in
    let rest = pairs_on R images nodes in
    let here = pairs_from x image.0 in (
      here ++ rest.0,
      λ a b. (
        λ h. elim (Contains-append_cases here rest.0 (a, b) h) [
          | inl first ↦ (
              let of = (paired_with x image.0 a b).0 first in
              let from = (image.1 b).0 of.1 in
              let start : x ≡ from.0 = elim (Contains-cases x [] from.0 from.1) [ inl same ↦ same | inr none ↦ absurd (Contains-none from.0 none) ] in
              (Contains-same (x ∷ nodes) x a of.0 (Contains-head x nodes), subst (λ (o : Oid). R o b) (sym start ∙ of.0) from.2))
          | inr later ↦ (let of = (rest.1 a b).0 later in (Contains-tail x nodes a of.0, of.1))
        ],
        λ h. elim (Contains-cases x nodes a h.0) [
          | inl same ↦ Contains-append_left here rest.0 (a, b)
              ((paired_with x image.0 a b).1
              (same, (image.1 b).1 (x, Contains-head x [], subst (λ (o : Oid). R o b) (sym same) h.1)))
          | inr later ↦ Contains-append_right here rest.0 (a, b) ((rest.1 a b).1 (later, h.1))
        ],
      ),
    )

-- a relation that leads to the objects of a list alone, or nowhere else
images_leads : (R : Oid → Oid → Type 0) → HasImages R → (ends : List Oid) → ((x y : Oid) → R x y → (x ≡ y) ⊎ Contains ends y) → HasImages (Leads R)
images_leads R images ends bound xs =
    let nodes = xs ++ ends in
    let pairs = pairs_on R images nodes in
    let image = closed pairs.0 xs in (
      image.0,
      λ y. (
        λ h.
            let from = (image.1 y).0 h in
            (from.0, from.1, (from.2.0, chain_within (Paired pairs.0) R (λ o. Unit {0}) (λ a b here step. (tt, ((pairs.1 a b).0 step).1)) from.2.0 from.0 y from.2.1 tt)),
        λ h. (image.1 y).1 (
          h.0,
          h.1,
          (
            h.2.0,
            chain_within R (Paired pairs.0) (Contains nodes)
                (λ a b here step. (
                  elim (bound a b step) [ inl same ↦ Contains-same nodes a b same here | inr end ↦ Contains-append_right xs ends b end ],
                  (pairs.1 a b).1 (here, step),
                ))
                h.2.0 h.0 y h.2.1 (Contains-append_left xs ends h.0 h.1),
          ),
        ),
      ),
    )

-- ---- walks of words that pass
module _ (edges : List Edge) where
  abbrev ends : List Oid
  ends = map (λ (edge : Edge). edge.child) edges

  abbrev Passes : (List Label → Type 0) → Oid → Oid → Type 0
  Passes S x y = (word : List Label) × S word × Walk edges x word y

  passes_empty : (x y : Oid) → Passes (λ word. word ≡ []) x y ↔ (x ≡ y)
  passes_empty x y = (λ h. subst (λ (word : List Label). Walk edges x word y) h.1 h.2, λ same. ([], refl, same))

  abbrev Both : (List Label → Type 0) → (List Label → Type 0) → List Label → Type 0
  Both S T word = (first : List Label) × (rest : List Label) × (word ≡ first ++ rest) × S first × T rest

  passes_both : (S T : List Label → Type 0) (x y : Oid) → Passes (Both S T) x y ↔ Then (Passes S) (Passes T) x y
  passes_both S T x y = (
    λ h.
        let both = h.1 in
        let walk = Walk-split edges x both.0 both.1 y (subst (λ (word : List Label). Walk edges x word y) both.2 h.2) in
        (walk.0, (both.0, both.3, walk.1), (both.1, both.4, walk.2)),
    λ h. (h.1.0 ++ h.2.0, (h.1.0, h.2.0, refl, h.1.1, h.2.1), Walk-append edges x h.1.0 h.0 h.2.0 y h.1.2 h.2.2),
  )

  passes_either : (S T : List Label → Type 0) (x y : Oid) → Passes (λ word. S word ⊎ T word) x y ↔ (Passes S x y ⊎ Passes T x y)
  passes_either S T x y = (
    λ h. elim h.1 [ inl left ↦ inl (h.0, left, h.2) | inr right ↦ inr (h.0, right, h.2) ],
    λ h. elim h [ inl left ↦ (left.0, inl left.1, left.2) | inr right ↦ (right.0, inr right.1, right.2) ],
  )

  passes_times : (S : List Label → Type 0) (count : ℕ) (x y : Oid) → Passes (Times S count) x y ↔ Chain (Passes S) count x y
  passes_times S zero x y = passes_empty x y
  passes_times S (suc count) x y = (
    λ h.
        let both = (passes_both S (Times S count) x y).0 h in
        (both.0, both.1, (passes_times S count both.0 y).0 both.2),
    λ h. (passes_both S (Times S count) x y).1 (h.0, h.1, (passes_times S count h.0 y).1 h.2),
  )

  passes_star : (S : List Label → Type 0) (x y : Oid) → Passes (λ word. (count : ℕ) × Times S count word) x y ↔ Leads (Passes S) x y
  passes_star S x y = (
    λ h. (h.1.0, (passes_times S h.1.0 x y).0 (h.0, h.1.1, h.2)),
    λ h. let passed = (passes_times S h.0 x y).1 h.1 in (passed.0, (h.0, passed.1), passed.2),
  )

  passes_plus : (S : List Label → Type 0) (x y : Oid) → Passes (λ word. (count : ℕ) × Times S (suc count) word) x y ↔ Then (Passes S) (Leads (Passes S)) x y
  passes_plus S x y = (
    λ h. let chain = (passes_times S (suc h.1.0) x y).0 (h.0, h.1.1, h.2) in (chain.0, chain.1, (h.1.0, chain.2)),
    λ h. let passed = (passes_times S (suc h.2.0) x y).1 (h.0, h.1, h.2.1) in (passed.0, (h.2.0, passed.1), passed.2),
  )

  child_end : (edge : Edge) → Contains edges edge → Contains ends edge.child
  child_end edge here = Contains-map (λ (e : Edge). e.child) edges edge here

  walk_bound : (word : List Label) (x y : Oid) → Walk edges x word y → (x ≡ y) ⊎ Contains ends y
  walk_bound [] x y same = inl same
  walk_bound (label ∷ word) x y walk = elim (walk_bound word walk.0 y walk.2) [
    | inl same ↦ inr (Contains-same ends walk.0 y same (child_end (edge_of x label walk.0) walk.1))
    | inr end ↦ inr end
  ]

  passes_bound : (S : List Label → Type 0) (x y : Oid) → Passes S x y → (x ≡ y) ⊎ Contains ends y
  passes_bound S x y passed = walk_bound passed.0 x y passed.2

  images_star : (S : List Label → Type 0) → HasImages (Passes S) → HasImages (Leads (Passes S))
  images_star S images = images_leads (Passes S) images ends (passes_bound S)

-- ---- one edge
abbrev IsOne : (Label → Type 0) → List Label → Type 0
IsOne F word = (label : Label) × (word ≡ label ∷ []) × F label

abbrev ChildOf : (Edge → Type 0) → List Edge → Oid → Type 0
ChildOf P edges oid = (edge : Edge) × Contains edges edge × P edge × (edge.child ≡ oid)

child_cases : (P : Edge → Type 0) (edge : Edge) (edges : List Edge) (oid : Oid) → ChildOf P (edge ∷ edges) oid → (P edge × (edge.child ≡ oid)) ⊎ ChildOf P edges oid
child_cases P edge edges oid h = elim (Contains-cases edge edges h.0 h.1) [
  | inl same ↦ inl (subst P (sym same) h.2, ap (λ (e : Edge). e.child) same ∙ h.3)
  | inr later ↦ inr (h.0, later, h.2, h.3)
]

child_later : (P : Edge → Type 0) (edge : Edge) (edges : List Edge) (oid : Oid) → ChildOf P edges oid → ChildOf P (edge ∷ edges) oid
child_later P edge edges oid h = (h.0, Contains-tail edge edges h.0 h.1, h.2, h.3)

some_children : (P : Edge → Type 0) → ((edge : Edge) → IsTold (P edge)) → (edges : List Edge)
    → (found : List Oid) × ((oid : Oid) → Contains found oid ↔ ChildOf P edges oid)
some_children P told [] = ([], λ oid. (λ h. absurd (Contains-none oid h), λ h. absurd (Contains-none h.0 h.1)))
some_children P told (edge ∷ edges) =
    let rest = some_children P told edges in
    elim (told edge) [
      | inl passes ↦ (
        edge.child ∷ rest.0,
        λ oid. (
          λ h. elim (Contains-cases edge.child rest.0 oid h) [
            | inl same ↦ (edge, Contains-head edge edges, passes, same)
            | inr later ↦ child_later P edge edges oid ((rest.1 oid).0 later)
          ],
          λ h. elim (child_cases P edge edges oid h) [
            | inl here ↦ Contains-same (edge.child ∷ rest.0) edge.child oid here.1 (Contains-head edge.child rest.0)
            | inr later ↦ Contains-tail edge.child rest.0 oid ((rest.1 oid).1 later)
          ],
        ),
      )
      | inr astray ↦ (
        rest.0,
        λ oid. (
          λ h. child_later P edge edges oid ((rest.1 oid).0 h),
          λ h. elim (child_cases P edge edges oid h) [ inl here ↦ absurd (astray here.0) | inr later ↦ (rest.1 oid).1 later ],
        ),
      )
    ]

images_one : (edges : List Edge) (F : Label → Type 0) → ((label : Label) → IsTold (F label)) → HasImages (Passes edges (IsOne F))
images_one edges F told xs =
    let children = some_children (λ edge. Contains xs edge.parent × F edge.label)
    (λ edge. told_both (told_member told_oid xs edge.parent) (told edge.label)) edges in (
      children.0,
      λ y. (
        λ h.
            let child = (children.1 y).0 h in
            let edge = child.0 in
            (edge.parent, child.2.0, (edge.label ∷ [], (edge.label, refl, child.2.1), (edge.child, child.1, child.3))),
        λ h.
            let one = h.2.1 in
            let walk : Walk edges h.0 (one.0 ∷ []) y = subst (λ (word : List Label). Walk edges h.0 word y) one.1 h.2.2 in
            (children.1 y).1 (edge_of h.0 one.0 walk.0, walk.1, (h.1, one.2), walk.2),
      ),
    )

-- ---- paths
any_leads : (edges : List Edge) (x y : Oid) → Passes edges (λ word. Unit {0}) x y ↔ Leads (Passes edges (IsOne (λ label. Unit {0}))) x y
any_leads edges x y = (λ h. there h.0 x h.2, λ h. back h.0 x h.1)
  where
    there : (word : List Label) (x : Oid) → Walk edges x word y → Leads (Passes edges (IsOne (λ label. Unit {0}))) x y
    there [] x same = (zero, same)
    there (label ∷ word) x walk =
        let rest = there word walk.0 walk.2 in
        (suc rest.0, (walk.0, (label ∷ [], (label, refl, tt), (walk.0, walk.1, refl)), rest.1))

    back : (count : ℕ) (x : Oid) → Chain (Passes edges (IsOne (λ label. Unit {0}))) count x y → Passes edges (λ word. Unit {0}) x y
    back zero x same = ([], tt, same)
    back (suc count) x chain =
        let first = chain.1 in
        let rest = back count chain.0 chain.2 in
        (first.0 ++ rest.0, tt, Walk-append edges x first.0 chain.0 rest.0 y first.2 rest.2)

module _ (labels : List (List ℕ)) (edges : List Edge) where
  mutual
    some_images : (path : PathTree) → HasImages (Reaches labels edges path)
    some_images (p.step pattern) = images_one edges (Fits labels pattern) (told_fits labels pattern)
    some_images p.any =
        images_same (Leads (Passes edges (IsOne (λ label. Unit {0})))) (Reaches labels edges p.any) (λ x y. ((any_leads edges x y).1, (any_leads edges x y).0))
        (images_star edges (IsOne (λ label. Unit {0})) (images_one edges (λ label. Unit {0}) (λ label. inl tt)))
    some_images (p.seq parts) = some_in_turn parts
    some_images (p.alt parts) = some_of parts
    some_images (p.opt part) =
        images_same (λ x y. (x ≡ y) ⊎ Reaches labels edges part x y) (Reaches labels edges (p.opt part))
        (λ x y. (
          λ h. (passes_either edges (λ word. word ≡ []) (Spells labels part) x y).1 (elim h [ inl same ↦ inl ((passes_empty edges x y).1 same) | inr reached ↦ inr reached ]),
          λ h. elim ((passes_either edges (λ word. word ≡ []) (Spells labels part) x y).0 h) [ inl empty ↦ inl ((passes_empty edges x y).0 empty) | inr reached ↦ inr reached ],
        ))
        (images_either (λ x y. x ≡ y) (Reaches labels edges part) images_self (some_images part))
    some_images (p.star part) =
        images_same (Leads (Reaches labels edges part)) (Reaches labels edges (p.star part))
        (λ x y. ((passes_star edges (Spells labels part) x y).1, (passes_star edges (Spells labels part) x y).0))
        (images_star edges (Spells labels part) (some_images part))
    some_images (p.plus part) =
        images_same (Then (Reaches labels edges part) (Leads (Reaches labels edges part))) (Reaches labels edges (p.plus part))
        (λ x y. ((passes_plus edges (Spells labels part) x y).1, (passes_plus edges (Spells labels part) x y).0))
        (images_then (Reaches labels edges part) (Leads (Reaches labels edges part)) (some_images part) (images_star edges (Spells labels part) (some_images part)))

    some_in_turn : (parts : PathTrees) → HasImages (Passes edges (SpellInTurn labels parts))
    some_in_turn p.none = images_same (λ x y. x ≡ y) (Passes edges (SpellInTurn labels p.none)) (λ x y. ((passes_empty edges x y).1, (passes_empty edges x y).0)) images_self
    some_in_turn (p.more part parts) =
        images_same (Then (Reaches labels edges part) (Passes edges (SpellInTurn labels parts))) (Passes edges (SpellInTurn labels (p.more part parts)))
        (λ x y. ((passes_both edges (Spells labels part) (SpellInTurn labels parts) x y).1, (passes_both edges (Spells labels part) (SpellInTurn labels parts) x y).0))
        (images_then (Reaches labels edges part) (Passes edges (SpellInTurn labels parts)) (some_images part) (some_in_turn parts))

    some_of : (parts : PathTrees) → HasImages (Passes edges (SomeSpells labels parts))
    some_of p.none = images_same (λ x y. ⊥) (Passes edges (SomeSpells labels p.none)) (λ x y. (λ h. absurd h, λ h. absurd h.1)) images_none
    some_of (p.more part parts) =
        images_same (λ x y. Reaches labels edges part x y ⊎ Passes edges (SomeSpells labels parts) x y) (Passes edges (SomeSpells labels (p.more part parts)))
        (λ x y. ((passes_either edges (Spells labels part) (SomeSpells labels parts) x y).1, (passes_either edges (Spells labels part) (SomeSpells labels parts) x y).0))
        (images_either (Reaches labels edges part) (Passes edges (SomeSpells labels parts)) (some_images part) (some_of parts))

  -- what a path reaches from a start is a finite list
  pub listed_reached : (path : PathTree) (start : Oid) → IsListed (Reaches labels edges path start)
  listed_reached path start =
      let image = some_images path (start ∷ []) in (
        image.0,
        λ oid. (
          λ h.
              let from = (image.1 oid).0 h in
              let same : start ≡ from.0 = elim (Contains-cases start [] from.0 from.1) [ inl same ↦ same | inr none ↦ absurd (Contains-none from.0 none) ] in
              subst (λ (o : Oid). Reaches labels edges path o oid) (sym same) from.2,
          λ h. (image.1 oid).1 (start, Contains-head start [], h),
        ),
      )
