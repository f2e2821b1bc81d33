-- Edges in layers ascend, and which edges they are; the run of an object among them.
use Rattle.std.proofs.Common.{◌≡◌, ℕ, ◌↔◌, ◌⊎◌, Bool, true, not, ◌==◌, inl, inr, Less, Equal}
use Rattle.std.proofs.Common.{Greater, List, [], ◌∷◌, length, get_or, Contains, refl, sym, ap, ◌∙◌}
use Rattle.std.proofs.Common.{subst, arith}
use Rattle.std.specs.Ordering.{match_ordering, ordering_reverse}
use Rattle.std.specs.BTreeSet.{insert_key}
use Rattle.std.proofs.lemmas.Bool.{true≢false}
use Rattle.std.proofs.lemmas.Bool.Decides.{nat_tests}
use Rattle.std.proofs.lemmas.List.{nil_from_length}
use Rattle.std.proofs.lemmas.List.Elements.{Contains-get_or}
use Rattle.std.proofs.lemmas.List.Kept.{AllPairs-filter}
use Rattle.lore_base.proofs.ListLaws.{AllPairs-append, AllPairs-tail, AllPairs-head, AllPairs-unique}
use Rattle.lore_base.proofs.MemberLaws.{Contains-none, Contains-head, Contains-tail, Contains-cases, Contains-same}
use Rattle.lore_base.proofs.MemberLaws.{Contains-filter, unfiltered}
use Rattle.lore_base.specs.Walks.{edge_cmp}
use Rattle.lore_base.specs.Databases.{AreAscendingEdges}
use Rattle.edge_layers.specs.Types.{Edge}
use Rattle.edge_layers.specs.EdgeTests.{is_listed}
use Rattle.edge_layers.specs.Layers.{staying, with_edges, layered}
use Rattle.edge_layers.proofs.EdgeLaws.{edge_cmp_total, equal_edges, ascend-one}
use Rattle.edge_layers.proofs.SearchLaws.{listed, not_listed}

-- an edge before ascending ones that are all above it
pub ascend-cons : (edge : Edge) (edges : List Edge)
    → ((other : Edge) → Contains edges other → edge_cmp edge other ≡ Less) → AreAscendingEdges edges
    → AreAscendingEdges (edge ∷ edges)
ascend-cons edge edges above ascend =
    AllPairs-append (λ a b. edge_cmp a b ≡ Less) (edge ∷ []) edges (ascend-one edge) ascend
    (λ i j d lt_i lt_j.
    let here : i ≡ 0 = omega arith in
    rw here (above (get_or edges j d) (Contains-get_or edges j d lt_j)))

-- what stands in a list into which an edge was put
inserted : (edges : List Edge) (edge other : Edge) → Contains (insert_key edge_cmp edges edge) other
    → Contains edges other ⊎ (edge ≡ other)
inserted [] edge other at = elim (Contains-cases edge [] other at) [ inl same ↦ inr same | inr none ↦ inl none ]
inserted (first ∷ edges) edge other at =
    elim (edge_cmp edge first) as (λ o. Contains (match_ordering o (edge ∷ first ∷ edges) (first ∷ edges) (first ∷ insert_key edge_cmp edges edge)) other → Contains (first ∷ edges) other ⊎ (edge ≡ other)) [
      | Less ↦ λ here. elim (Contains-cases edge (first ∷ edges) other here) [ inl same ↦ inr same | inr later ↦ inl later ]
      | Equal ↦ λ here. inl here
      | Greater ↦ λ here. elim (Contains-cases first (insert_key edge_cmp edges edge) other here) [
        | inl same ↦ inl (Contains-same (first ∷ edges) first other same (Contains-head first edges))
        | inr later ↦ elim (inserted edges edge other later) [ inl at ↦ inl (Contains-tail first edges other at) | inr same ↦ inr same ]
      ]
    ] at

kept-inserted : (edges : List Edge) (edge other : Edge) → Contains edges other
    → Contains (insert_key edge_cmp edges edge) other
kept-inserted [] edge other at = absurd (Contains-none other at)
kept-inserted (first ∷ edges) edge other at =
    elim (edge_cmp edge first) as (λ o. Contains (match_ordering o (edge ∷ first ∷ edges) (first ∷ edges) (first ∷ insert_key edge_cmp edges edge)) other) [
      | Less ↦ Contains-tail edge (first ∷ edges) other at
      | Equal ↦ at
      | Greater ↦ elim (Contains-cases first edges other at) [
        | inl same ↦ Contains-same (first ∷ insert_key edge_cmp edges edge) first other same (Contains-head first (insert_key edge_cmp edges edge))
        | inr later ↦ Contains-tail first (insert_key edge_cmp edges edge) other (kept-inserted edges edge other later)
      ]
    ]

new-inserted : (edges : List Edge) (edge : Edge) → Contains (insert_key edge_cmp edges edge) edge
new-inserted [] edge = Contains-head edge []
new-inserted (first ∷ edges) edge =
    elim (edge_cmp edge first) as (λ o. edge_cmp edge first ≡ o → Contains (match_ordering o (edge ∷ first ∷ edges) (first ∷ edges) (first ∷ insert_key edge_cmp edges edge)) edge) [
      | Less ↦ λ less. Contains-head edge (first ∷ edges)
      | Equal ↦ λ same. Contains-same (first ∷ edges) first edge (sym (equal_edges edge first same)) (Contains-head first edges)
      | Greater ↦ λ greater. Contains-tail first (insert_key edge_cmp edges edge) edge (new-inserted edges edge)
    ] refl

ascend-inserted : (edges : List Edge) (edge : Edge) → AreAscendingEdges edges
    → AreAscendingEdges (insert_key edge_cmp edges edge)
ascend-inserted [] edge ascend = ascend-one edge
ascend-inserted (first ∷ edges) edge ascend =
    let others = ascend-inserted edges edge (AllPairs-tail (λ a b. edge_cmp a b ≡ Less) first edges ascend) in
    let above = AllPairs-head (λ a b. edge_cmp a b ≡ Less) first edges ascend in
    elim (edge_cmp edge first) as (λ o. edge_cmp edge first ≡ o → AreAscendingEdges (match_ordering o (edge ∷ first ∷ edges) (first ∷ edges) (first ∷ insert_key edge_cmp edges edge))) [
      | Less ↦ λ less. ascend-cons edge (first ∷ edges) (λ other at. elim (Contains-cases first edges other at) [
        | inl same ↦ subst (λ (e : Edge). edge_cmp edge e ≡ Less) same less
        | inr later ↦ edge_cmp_total.trans edge first other less (above other later)
      ]) ascend
      | Equal ↦ λ same. ascend
      | Greater ↦ λ greater. ascend-cons first (insert_key edge_cmp edges edge) (λ other at. elim (inserted edges edge other at) [
        | inl later ↦ above other later
        | inr same ↦ subst (λ (e : Edge). edge_cmp first e ≡ Less) same (edge_cmp_total.antisymm first edge ∙ ap ordering_reverse greater)
      ]) others
    ] refl

-- edges into which others were put
pub ascend-with_edges : (edges others : List Edge) → AreAscendingEdges edges
    → AreAscendingEdges (with_edges edges others)
ascend-with_edges edges [] ascend = ascend
ascend-with_edges edges (edge ∷ others) ascend = ascend-with_edges (insert_key edge_cmp edges edge) others (ascend-inserted edges edge ascend)

in-with_edges : (edges others : List Edge) (edge : Edge) → Contains (with_edges edges others) edge
    → Contains edges edge ⊎ Contains others edge
in-with_edges edges [] edge at = inl at
in-with_edges edges (other ∷ others) edge at = elim (in-with_edges (insert_key edge_cmp edges other) others edge at) [
  | inl there ↦ elim (inserted edges other edge there) [ inl kept ↦ inl kept | inr same ↦ inr (Contains-same (other ∷ others) other edge same (Contains-head other others)) ]
  | inr later ↦ inr (Contains-tail other others edge later)
]

kept-with_edges : (edges others : List Edge) (edge : Edge) → Contains edges edge
    → Contains (with_edges edges others) edge
kept-with_edges edges [] edge at = at
kept-with_edges edges (other ∷ others) edge at = kept-with_edges (insert_key edge_cmp edges other) others edge (kept-inserted edges other edge at)

new-with_edges : (edges others : List Edge) (edge : Edge) → Contains others edge
    → Contains (with_edges edges others) edge
new-with_edges edges [] edge at = absurd (Contains-none edge at)
new-with_edges edges (other ∷ others) edge at = elim (Contains-cases other others edge at) [
  | inl same ↦ kept-with_edges (insert_key edge_cmp edges other) others edge (Contains-same (insert_key edge_cmp edges other) other edge same (new-inserted edges other))
  | inr later ↦ new-with_edges (insert_key edge_cmp edges other) others edge later
]

pub members-with_edges : (edges others : List Edge) (edge : Edge)
    → Contains (with_edges edges others) edge ↔ (Contains edges edge ⊎ Contains others edge)
members-with_edges edges others edge = (
  in-with_edges edges others edge,
  λ either. elim either [ inl kept ↦ kept-with_edges edges others edge kept | inr new ↦ new-with_edges edges others edge new ],
)

-- the edges that stay
pub ascend-staying : (lost kept : List Edge) → AreAscendingEdges kept → AreAscendingEdges (staying lost kept)
ascend-staying lost kept ascend = AllPairs-filter (λ a b. edge_cmp a b ≡ Less) (λ edge. not (is_listed lost edge)) kept ascend

pub members-staying : (lost kept : List Edge) (edge : Edge)
    → Contains (staying lost kept) edge ↔ (Contains kept edge × (Contains lost edge → ⊥))
members-staying lost kept edge = (
  λ at.
      let passed = unfiltered (λ e. not (is_listed lost e)) kept edge at in
      (passed.0, λ there. true≢false (sym passed.1 ∙ ap not (listed lost edge there))),
  λ both. Contains-filter (λ e. not (is_listed lost e)) kept edge both.0 (ap not (not_listed lost edge both.1)),
)

-- the layers ascend, and what stands in them
pub ascend-layered : (kept lost fresh : List Edge) → AreAscendingEdges kept
    → AreAscendingEdges (layered kept lost fresh)
ascend-layered kept lost fresh ascend = ascend-with_edges (staying lost kept) fresh (ascend-staying lost kept ascend)

pub members-layered : (kept lost fresh : List Edge) (edge : Edge)
    → Contains (layered kept lost fresh) edge ↔ ((Contains kept edge × (Contains lost edge → ⊥)) ⊎ Contains fresh edge)
members-layered kept lost fresh edge =
    let both = members-with_edges (staying lost kept) fresh edge in
    let stay = members-staying lost kept edge in (
      λ at. elim (both.0 at) [ inl there ↦ inl (stay.0 there) | inr new ↦ inr new ],
      λ either. both.1 (elim either [ inl there ↦ inl (stay.1 there) | inr new ↦ inr new ]),
    )

never-both : (a b : Edge) → edge_cmp a b ≡ Less → edge_cmp b a ≡ Less → ⊥
never-both a b less more = grind (arith, nat_tests)

-- ascending edges are one list where they are the same edges
pub same-edges : (edges others : List Edge) → AreAscendingEdges edges → AreAscendingEdges others
    → ((edge : Edge) → Contains edges edge ↔ Contains others edge) → edges ≡ others
same-edges edges others ascend ascend_others same = AllPairs-unique (λ a b. edge_cmp a b ≡ Less) never-both edges others ascend ascend_others same

pub number_of : (a b : ℕ) → (a == b) ≡ true → a ≡ b
number_of a b h = grind (arith, nat_tests)

pub number_is : (a b : ℕ) → a ≡ b → (a == b) ≡ true
number_is a b h = grind (arith, nat_tests)

-- a list that is told to be empty is
pub none_there : {X : Type 0} (xs : List X) (test : Bool) → test ≡ (length xs == 0) → test ≡ true → xs ≡ []
none_there xs test is told = nil_from_length xs (number_of (length xs) 0 (sym is ∙ told))
