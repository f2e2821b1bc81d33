-- Edges put among ascending ones, and which of them ascend.
use Rattle.std.proofs.Common.{◌≡◌, ◌+◌, ◌↔◌, ◌⊎◌, true, false, cond, inl, inr, Less, Equal, Greater, List, [], ◌∷◌, length, Contains, refl, sym, ap, ◌∙◌, subst, arith}
use Rattle.std.specs.declared.cmp.Ordering.{Ordering}
use Rattle.std.specs.Ordering.{is_lt, ordering_reverse}
use Rattle.std.proofs.lemmas.Bool.{true≢false}
use Rattle.lore_base.specs.Walks.{edge_cmp}
use Rattle.lore_base.specs.Databases.{AreAscendingEdges}
use Rattle.lore_base.proofs.ListLaws.{AllPairs-tail, AllPairs-head}
use Rattle.lore_base.proofs.MemberLaws.{Contains-none, Contains-head, Contains-tail, Contains-cases, Contains-same}
use Rattle.graph_changes.specs.Types.{Edge}
use Rattle.graph_changes.specs.Puts.{put_edge, put_edges}
use Rattle.edge_layers.proofs.EdgeLaws.{edge_cmp_total, equal_edges, ascend-one}
use Rattle.edge_layers.proofs.SearchLaws.{cmp_self}
use Rattle.edge_layers.proofs.LayerLaws.{ascend-cons, same-edges, members-layered, ascend-layered, members-staying}
use Rattle.edge_layers.specs.Layers.{staying, layered}

lt_less : (o : Ordering) → is_lt o ≡ true → o ≡ Less
lt_less Less h = refl
lt_less Equal h = absurd (true≢false (sym h))
lt_less Greater h = absurd (true≢false (sym h))

-- what stands in a list into which an edge was put
in-put : (edges : List Edge) (edge other : Edge) → Contains (put_edge edges edge) other → Contains edges other ⊎ (edge ≡ other)
in-put [] edge other at = elim (Contains-cases edge [] other at) [ inl same ↦ inr same | inr none ↦ inl none ]
in-put (first ∷ edges) edge other at =
    elim (is_lt (edge_cmp first edge)) as (λ b. Contains (cond b (first ∷ put_edge edges edge) (edge ∷ first ∷ edges)) other → Contains (first ∷ edges) other ⊎ (edge ≡ other)) [
      | true ↦ λ here. elim (Contains-cases first (put_edge edges edge) other here) [
        | inl same ↦ inl (Contains-same (first ∷ edges) first other same (Contains-head first edges))
        | inr later ↦ elim (in-put edges edge other later) [ inl old ↦ inl (Contains-tail first edges other old) | inr same ↦ inr same ]
      ]
      | false ↦ λ here. elim (Contains-cases edge (first ∷ edges) other here) [ inl same ↦ inr same | inr later ↦ inl later ]
    ] at

kept-put : (edges : List Edge) (edge other : Edge) → Contains edges other → Contains (put_edge edges edge) other
kept-put [] edge other at = absurd (Contains-none other at)
kept-put (first ∷ edges) edge other at =
    elim (is_lt (edge_cmp first edge)) as (λ b. Contains (cond b (first ∷ put_edge edges edge) (edge ∷ first ∷ edges)) other) [
      | true ↦ elim (Contains-cases first edges other at) [
        | inl same ↦ Contains-same (first ∷ put_edge edges edge) first other same (Contains-head first (put_edge edges edge))
        | inr later ↦ Contains-tail first (put_edge edges edge) other (kept-put edges edge other later)
      ]
      | false ↦ Contains-tail edge (first ∷ edges) other at
    ]

new-put : (edges : List Edge) (edge : Edge) → Contains (put_edge edges edge) edge
new-put [] edge = Contains-head edge []
new-put (first ∷ edges) edge =
    elim (is_lt (edge_cmp first edge)) as (λ b. Contains (cond b (first ∷ put_edge edges edge) (edge ∷ first ∷ edges)) edge) [
      | true ↦ Contains-tail first (put_edge edges edge) edge (new-put edges edge)
      | false ↦ Contains-head edge (first ∷ edges)
    ]

pub in-put_edges : (edges come : List Edge) (edge : Edge) → Contains (put_edges edges come) edge → Contains edges edge ⊎ Contains come edge
in-put_edges edges [] edge at = inl at
in-put_edges edges (first ∷ come) edge at = elim (in-put_edges (put_edge edges first) come edge at) [
  | inl there ↦ elim (in-put edges first edge there) [ inl kept ↦ inl kept | inr same ↦ inr (Contains-same (first ∷ come) first edge same (Contains-head first come)) ]
  | inr later ↦ inr (Contains-tail first come edge later)
]

kept-put_edges : (edges come : List Edge) (edge : Edge) → Contains edges edge → Contains (put_edges edges come) edge
kept-put_edges edges [] edge at = at
kept-put_edges edges (first ∷ come) edge at = kept-put_edges (put_edge edges first) come edge (kept-put edges first edge at)

new-put_edges : (edges come : List Edge) (edge : Edge) → Contains come edge → Contains (put_edges edges come) edge
new-put_edges edges [] edge at = absurd (Contains-none edge at)
new-put_edges edges (first ∷ come) edge at = elim (Contains-cases first come edge at) [
  | inl same ↦ kept-put_edges (put_edge edges first) come edge (Contains-same (put_edge edges first) first edge same (new-put edges first))
  | inr later ↦ new-put_edges (put_edge edges first) come edge later
]

pub members-put_edges : (edges come : List Edge) (edge : Edge) → Contains (put_edges edges come) edge ↔ (Contains edges edge ⊎ Contains come edge)
members-put_edges edges come edge = (
  in-put_edges edges come edge,
  λ either. elim either [ inl kept ↦ kept-put_edges edges come edge kept | inr new ↦ new-put_edges edges come edge new ],
)

-- ---- where the edges ascend then, they ascended before, and none of those that come was there
never_self : (edge : Edge) → edge_cmp edge edge ≡ Less → ⊥
never_self edge less = less≢equal (sym less ∙ cmp_self edge)
  where
    less≢equal : ◌≡◌ {A = Ordering} Less Equal → ⊥
    less≢equal same = absurd (cc)

put-back : (edges : List Edge) (edge : Edge) → AreAscendingEdges (put_edge edges edge) → AreAscendingEdges edges × (Contains edges edge → ⊥)
put-back [] edge ascend = (λ i j d lt len. absurd (omega (arith, len)), λ at. Contains-none edge at)
put-back (first ∷ edges) edge ascend =
    elim (is_lt (edge_cmp first edge)) as (λ b. is_lt (edge_cmp first edge) ≡ b → AreAscendingEdges (cond b (first ∷ put_edge edges edge) (edge ∷ first ∷ edges)) → AreAscendingEdges (first ∷ edges) × (Contains (first ∷ edges) edge → ⊥)) [
      | true ↦ λ less whole.
          let others = put-back edges edge (AllPairs-tail (λ a b. edge_cmp a b ≡ Less) first (put_edge edges edge) whole) in
          let above = AllPairs-head (λ a b. edge_cmp a b ≡ Less) first (put_edge edges edge) whole in (
            ascend-cons first edges (λ other at. above other (kept-put edges edge other at)) others.0,
            λ at. elim (Contains-cases first edges edge at) [
              | inl same ↦ never_self edge (subst (λ (e : Edge). edge_cmp e edge ≡ Less) same (lt_less (edge_cmp first edge) less))
              | inr later ↦ others.1 later
            ],
          )
      | false ↦ λ not_less whole. (
        AllPairs-tail (λ a b. edge_cmp a b ≡ Less) edge (first ∷ edges) whole,
        λ at. never_self edge (AllPairs-head (λ a b. edge_cmp a b ≡ Less) edge (first ∷ edges) whole edge at),
      )
    ] refl ascend

pub put-back_all : (edges come : List Edge) → AreAscendingEdges (put_edges edges come) → AreAscendingEdges edges × ((edge : Edge) → Contains come edge → Contains edges edge → ⊥)
put-back_all edges [] ascend = (ascend, λ edge at there. Contains-none edge at)
put-back_all edges (first ∷ come) ascend =
    let rest = put-back_all (put_edge edges first) come ascend in
    let one = put-back edges first rest.0 in (
      one.0,
      λ edge at there. elim (Contains-cases first come edge at) [
        | inl same ↦ one.1 (subst (λ (e : Edge). Contains edges e) (sym same) there)
        | inr later ↦ rest.1 edge later (kept-put edges first edge there)
      ],
    )

-- ---- new edges put among ascending ones ascend
ascend-put : (edges : List Edge) (edge : Edge) → AreAscendingEdges edges → (Contains edges edge → ⊥) → AreAscendingEdges (put_edge edges edge)
ascend-put [] edge ascend new = ascend-one edge
ascend-put (first ∷ edges) edge ascend new =
    let tail = AllPairs-tail (λ a b. edge_cmp a b ≡ Less) first edges ascend in
    let above = AllPairs-head (λ a b. edge_cmp a b ≡ Less) first edges ascend in
    let others = ascend-put edges edge tail (λ at. new (Contains-tail first edges edge at)) in
    elim (is_lt (edge_cmp first edge)) as (λ b. is_lt (edge_cmp first edge) ≡ b → AreAscendingEdges (cond b (first ∷ put_edge edges edge) (edge ∷ first ∷ edges))) [
      | true ↦ λ less. ascend-cons first (put_edge edges edge)
          (λ other at. elim (in-put edges edge other at) [
            | inl old ↦ above other old
            | inr same ↦ subst (λ (e : Edge). edge_cmp first e ≡ Less) same (lt_less (edge_cmp first edge) less)
          ])
          others
      | false ↦ λ not_less.
          let below = below_first (edge_cmp first edge) refl not_less in
          ascend-cons edge (first ∷ edges)
          (λ other at. elim (Contains-cases first edges other at) [
            | inl same ↦ subst (λ (e : Edge). edge_cmp edge e ≡ Less) same below
            | inr later ↦ edge_cmp_total.trans edge first other below (above other later)
          ])
          ascend
    ] refl
  where
    below_first : (o : Ordering) → edge_cmp first edge ≡ o → is_lt (edge_cmp first edge) ≡ false → edge_cmp edge first ≡ Less
    below_first Less is not_less = absurd (true≢false (sym (ap is_lt is) ∙ not_less))
    below_first Equal is not_less = absurd (new (Contains-same (first ∷ edges) first edge (equal_edges first edge is) (Contains-head first edges)))
    below_first Greater is not_less = edge_cmp_total.antisymm edge first ∙ ap ordering_reverse is

pub ascend-put_edges : (edges come : List Edge) → AreAscendingEdges edges → AreAscendingEdges come → ((edge : Edge) → Contains come edge → Contains edges edge → ⊥) → AreAscendingEdges (put_edges edges come)
ascend-put_edges edges [] ascend ordered new = ascend
ascend-put_edges edges (first ∷ come) ascend ordered new =
    ascend-put_edges (put_edge edges first) come (ascend-put edges first ascend (λ there. new first (Contains-head first come) there))
    (AllPairs-tail (λ a b. edge_cmp a b ≡ Less) first come ordered)
    (λ edge at there. elim (in-put edges first edge there) [
      | inl old ↦ new edge (Contains-tail first come edge at) old
      | inr same ↦ never_self edge (subst (λ (e : Edge). edge_cmp e edge ≡ Less) same (AllPairs-head (λ a b. edge_cmp a b ≡ Less) first come ordered edge at))
    ])

-- how many there are then
length-put : (edges : List Edge) (edge : Edge) → length (put_edge edges edge) ≡ length edges + 1
length-put [] edge = refl
length-put (first ∷ edges) edge =
    let rest = length-put edges edge in
    elim (is_lt (edge_cmp first edge)) as (λ b. length (cond b (first ∷ put_edge edges edge) (edge ∷ first ∷ edges)) ≡ length (first ∷ edges) + 1) [
      | true ↦ omega (arith, rest)
      | false ↦ omega arith
    ]

pub length-put_edges : (edges come : List Edge) → length (put_edges edges come) ≡ length edges + length come
length-put_edges edges [] = omega arith
length-put_edges edges (first ∷ come) = omega (arith, length-put_edges (put_edge edges first) come, length-put edges first)

-- where they ascend they are the layers
pub put-layered : (kept gone come : List Edge) → AreAscendingEdges kept → AreAscendingEdges (put_edges (staying gone kept) come) → put_edges (staying gone kept) come ≡ layered kept gone come
put-layered kept gone come ascend whole =
    same-edges (put_edges (staying gone kept) come) (layered kept gone come) whole (ascend-layered kept gone come ascend)
    (λ edge. (
      λ at. (members-layered kept gone come edge).1 (elim (in-put_edges (staying gone kept) come edge at) [
        | inl stays ↦ inl ((members-staying gone kept edge).0 stays)
        | inr new ↦ inr new
      ]),
      λ at. (members-put_edges (staying gone kept) come edge).1 (elim ((members-layered kept gone come edge).0 at) [
        | inl stays ↦ inl ((members-staying gone kept edge).1 stays)
        | inr new ↦ inr new
      ]),
    ))
