-- The edges of the records as one list.
use Rattle.std.proofs.Common.{◌≡◌, ◌↔◌, ℕ, Bool, ◌||◌, true, false, Option, Some, None, is_some, List, [], ◌∷◌, Contains, refl, sym, ap, ◌∙◌, inl, inr, arith}
use Rattle.std.specs.Option.{IfSome, IfNone}
use Rattle.std.proofs.lemmas.Bool.{true≢false}
use Rattle.std.proofs.lemmas.Bool.Decides.{nat_tests}
use Rattle.std.specs.List.{list_any}
use Rattle.slab.specs.Slab.{Slab}
use Rattle.lore_base.specs.Walks.{edge_cmp}
use Rattle.lore_base.specs.Databases.{AreAscendingEdges}
use Rattle.lore_lists.proofs.MemberLaws.{Contains-none, Contains-head, Contains-tail, Contains-cases, Contains-same}
use Rattle.near_links.proofs.SlotLaws.{members, ascend_listed}
use Rattle.edge_lists.specs.Types.{Edge, Out, EdgeRecord}
use Rattle.edge_lists.specs.Records.{edge_in, LiesAt, HasEdge}
use Rattle.edge_lists.specs.Views.{edges_of, edge_same, is_there}
use Rattle.edge_lists.proofs.EdgeLaws.{side_total, same_edge}

pub edges_lie : (records : Slab EdgeRecord) (edge : Edge) → Contains (edges_of records) edge ↔ HasEdge records edge
edges_lie records edge = members edge_in edge_cmp (same_edge Out) None refl records.slots edge

pub edges_ascend : (records : Slab EdgeRecord) → AreAscendingEdges (edges_of records)
edges_ascend records = ascend_listed edge_in edge_cmp (same_edge Out) None refl (side_total Out) records.slots

same_is : (a b : Edge) → edge_same a b ≡ true → a ≡ b
same_is a b h =
    let parent : a.parent.0 ≡ b.parent.0 = grind (arith, nat_tests) in
    let label : a.label.0 ≡ b.label.0 = grind (arith, nat_tests) in
    let child : a.child.0 ≡ b.child.0 = grind (arith, nat_tests) in
    λ i. record { parent = record { 0 = parent i }; label = record { 0 = label i }; child = record { 0 = child i } }

same_self : (edge : Edge) → edge_same edge edge ≡ true
same_self edge = grind (arith, nat_tests)

pub listed : (edges : List Edge) (edge : Edge) → Contains edges edge → list_any (edge_same edge) edges ≡ true
listed [] edge at = absurd (Contains-none edge at)
listed (first ∷ edges) edge at = elim (Contains-cases first edges edge at) [
  | inl same ↦ ap (λ (e : Edge). edge_same edge e || list_any (edge_same edge) edges) same ∙ ap (λ (b : Bool). b || list_any (edge_same edge) edges) (same_self edge)
  | inr later ↦ let rest = listed edges edge later in elim (edge_same edge first) as (λ b. b || list_any (edge_same edge) edges ≡ true) [ true ↦ refl | false ↦ rest ]
]

pub unlisted : (edges : List Edge) (edge : Edge) → list_any (edge_same edge) edges ≡ true → Contains edges edge
unlisted [] edge h = absurd (true≢false (sym h))
unlisted (first ∷ edges) edge h =
    elim (edge_same edge first) as (λ b. edge_same edge first ≡ b → (b || list_any (edge_same edge) edges) ≡ true → Contains (first ∷ edges) edge) [
      | true ↦ λ same _. Contains-same (first ∷ edges) first edge (sym (same_is edge first same)) (Contains-head first edges)
      | false ↦ λ other later. Contains-tail first edges edge (unlisted edges edge later)
    ] refl h

pub there : (records : Slab EdgeRecord) (edge : Edge) → HasEdge records edge → is_there records edge ≡ true
there records edge has = listed (edges_of records) edge ((edges_lie records edge).1 has)

pub not_there : (records : Slab EdgeRecord) (edge : Edge) → (¬ HasEdge records edge) → is_there records edge ≡ false
not_there records edge none = elim (is_there records edge) as (λ b. is_there records edge ≡ b → b ≡ false) [
  | true ↦ λ yes. absurd (none ((edges_lie records edge).0 (unlisted (edges_of records) edge yes)))
  | false ↦ λ no. refl
] refl

pub found_there : (records : Slab EdgeRecord) (edge : Edge) (key : Option ℕ) → IfSome key (λ k. LiesAt records k edge) → IfNone key (¬ HasEdge records edge) → is_some key ≡ is_there records edge
found_there records edge (Some key) some none = sym (there records edge (key, some))
found_there records edge None some none = sym (not_there records edge none)
