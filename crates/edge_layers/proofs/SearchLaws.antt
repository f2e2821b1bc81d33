-- A binary search among ascending edges tells which edges stand there.
use Rattle.std.proofs.Common.{◌≡◌, ℕ, ◌<◌, ◌≤◌, ◌||◌, Bool, true, false, Less, Equal, Err, List, [], ◌∷◌, length, get_or, Contains, refl, sym, ap, ◌∙◌, inl, inr, arith}
use Rattle.std.proofs.lemmas.Bool.{true≢false}
use Rattle.std.specs.List.Sorted.{IsBinarySearchResult, IsNonDecreasingBy}
use Rattle.std.specs.Ordering.{ordering_index}
use Rattle.std.proofs.lemmas.Bool.{cases_lt}
use Rattle.std.proofs.lemmas.Bool.Decides.{nat_tests}
use Rattle.std.proofs.lemmas.List.{get_or_default}
use Rattle.edge_layers.specs.Types.{Edge}
use Rattle.edge_layers.specs.EdgeTests.{edge_eq, is_listed}
use Rattle.lore_base.specs.Walks.{edge_cmp}
use Rattle.lore_base.specs.Databases.{AreAscendingEdges}
use Rattle.lore_base.proofs.MemberLaws.{Contains-none, Contains-head, Contains-tail, Contains-cases, Contains-same}
use Rattle.edge_layers.proofs.EdgeLaws.{edge_same, equal_edges}

eq_self : (edge : Edge) → edge_eq edge edge ≡ true
eq_self edge = grind (arith, nat_tests)

pub listed : (edges : List Edge) (edge : Edge) → Contains edges edge → is_listed edges edge ≡ true
listed [] edge at = absurd (Contains-none edge at)
listed (first ∷ edges) edge at = elim (Contains-cases first edges edge at) [
  | inl same ↦ ap (λ (e : Edge). edge_eq edge e || is_listed edges edge) same ∙ ap (λ (b : Bool). b || is_listed edges edge) (eq_self edge)
  | inr later ↦ let rest = listed edges edge later in elim (edge_eq edge first) as (λ b. b || is_listed edges edge ≡ true) [ true ↦ refl | false ↦ rest ]
]

pub unlisted : (edges : List Edge) (edge : Edge) → is_listed edges edge ≡ true → Contains edges edge
unlisted [] edge h = absurd (true≢false (sym h))
unlisted (first ∷ edges) edge h =
    elim (edge_eq edge first) as (λ b. edge_eq edge first ≡ b → (b || is_listed edges edge) ≡ true → Contains (first ∷ edges) edge) [
      | true ↦ λ same _. Contains-same (first ∷ edges) first edge (sym (edge_same edge first same)) (Contains-head first edges)
      | false ↦ λ other later. Contains-tail first edges edge (unlisted edges edge later)
    ] refl h

comparison_rises : (a b x : Edge) → edge_cmp a b ≡ Less → ordering_index (edge_cmp a x) ≤ ordering_index (edge_cmp b x)
comparison_rises a b x less = grind (arith, nat_tests)

comparisons_rise : (edges : List Edge) → AreAscendingEdges edges → (x : Edge) → IsNonDecreasingBy (λ e. ordering_index (edge_cmp e x)) edges
comparisons_rise edges ascend x i j d le lt = elim (cases_lt i j) [
  | inl before ↦ comparison_rises (get_or edges i d) (get_or edges j d) x (ascend i j d before lt)
  | inr ge ↦ let same : i ≡ j = omega arith in omega (arith, ap (λ k. ordering_index (edge_cmp (get_or edges k d) x)) same)
]

pub cmp_self : (a : Edge) → edge_cmp a a ≡ Equal
cmp_self a = grind (arith, nat_tests)

-- what stands at a place and compares equal is the edge
pub found_edge : (edges : List Edge) (edge : Edge) (place : ℕ) (d : Edge) → place < length edges → edge_cmp (get_or edges place d) edge ≡ Equal → Contains edges edge
found_edge edges edge place d lt equal =
    (place, lt, get_or_default edges place edge d lt ∙ equal_edges (get_or edges place d) edge equal)

-- where a search ends at a gap the edge does not stand there
pub none_found : (edges : List Edge) → AreAscendingEdges edges → (edge : Edge) (place : ℕ) → IsBinarySearchResult (λ e. edge_cmp e edge) edges (Err place) → Contains edges edge → ⊥
none_found edges ascend edge place gap at =
    let parts = gap (comparisons_rise edges ascend edge) in
    let k = at.0 in
    let same : edge_cmp (get_or edges k edge) edge ≡ Equal = ap (λ (e : Edge). edge_cmp e edge) at.2 ∙ cmp_self edge in
    elim (cases_lt k place) [
      | inl before ↦ omega (arith, ap ordering_index (sym (parts.0 k edge (omega arith) before) ∙ same))
      | inr after ↦ omega (arith, ap ordering_index (sym (parts.1 k edge after at.1) ∙ same))
    ]

pub not_listed : (edges : List Edge) (edge : Edge) → (Contains edges edge → ⊥) → is_listed edges edge ≡ false
not_listed edges edge none = elim (is_listed edges edge) as (λ b. is_listed edges edge ≡ b → b ≡ false) [
  | true ↦ λ yes. absurd (none (unlisted edges edge yes))
  | false ↦ λ no. refl
] refl
