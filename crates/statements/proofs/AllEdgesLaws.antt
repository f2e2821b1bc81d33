-- The edges that leave each object, object by object, are all edges in order.
use Rattle.std.proofs.Common.{◌≡◌, ℕ, ◌+◌, ◌<◌, ◌≤◌, ◌==◌, true, Less, inl, inr, List, [], ◌∷◌, ◌++◌}
use Rattle.std.proofs.Common.{length, get_or, take, map, Contains, Some, refl, sym, ap, ◌∙◌, arith}
use Rattle.std.specs.List.{flat_map, slice_get}
use Rattle.std.proofs.lemmas.Bool.Decides.{nat_tests}
use Rattle.std.proofs.lemmas.List.{take_more, flat_map_more, take_all, length-map}
use Rattle.std.proofs.lemmas.List.Elements.{All-contains, Contains-get_or}
use Rattle.std.proofs.lemmas.List.Elements.{Contains-append_left, Contains-append_right, Contains-append_cases}
use Rattle.std.proofs.lemmas.Option.{slice_get_within, get_or_from_slice_get}
use Rattle.lore_base.specs.Walks.{edge_cmp, out_of}
use Rattle.lore_base.specs.Databases.{OemGraph, IsLinked, IsWellFormed, AreAscendingObjects, AreAscendingEdges}
use Rattle.lore_base.proofs.ListLaws.{AllPairs-append, AllPairs-head, AllPairs-tail}
use Rattle.lore_base.proofs.MemberLaws.{Contains-none, Contains-head, Contains-tail, Contains-cases, Contains-filter, unfiltered}
use Rattle.list_laws.proofs.PairLaws.{AllPairs-nil}
use Rattle.index_traits.proofs.OutLaws.{ascend-out_of}
use Rattle.oem_changes.proofs.EdgeOrderLaws.{one_edge_list}
use Rattle.statements.specs.Types.{Oid, Edge, Value, Complex}

-- the edges that leave the objects with these numbers
abbrev pub leaving : List Edge → List Oid → List Edge
leaving edges oids = flat_map (λ oid. out_of oid edges) oids

-- the numbers of the objects
abbrev pub oids_of : List (Oid × Value) → List Oid
oids_of objects = map (λ object. object.0) objects

-- those of one object more
pub leaving-more : (edges : List Edge) (oids : List Oid) (i : ℕ) (oid : Oid) → slice_get oids i ≡ Some oid
    → leaving edges (take (i + 1) oids) ≡ leaving edges (take i oids) ++ out_of oid edges
leaving-more edges oids i oid there =
    let within : i < length oids = slice_get_within oids i oid there in
    let one : get_or oids i oid ≡ oid = get_or_from_slice_get oids i oid oid there in
    ap (leaving edges) (take_more oids i oid within)
    ∙ sym (flat_map_more (λ (o : Oid). out_of o edges) [] (take i oids) (get_or oids i oid))
    ∙ ap (λ (o : Oid). leaving edges (take i oids) ++ out_of o edges) one

-- an edge that leaves one of the objects has it as its parent
from-leaving : (edges : List Edge) (objects : List (Oid × Value)) (edge : Edge) → Contains (leaving edges (oids_of objects)) edge
    → (object : Oid × Value) × Contains objects object × (edge.parent.0 ≡ object.0.0) × Contains edges edge
from-leaving edges [] edge there = absurd (Contains-none edge there)
from-leaving edges (object ∷ objects) edge there =
    elim (Contains-append_cases (out_of object.0 edges) (leaving edges (oids_of objects)) edge there) [
      | inl here ↦
          let kept = unfiltered (λ (e : Edge). e.parent.0 == object.0.0) edges edge here in
          let passes : (edge.parent.0 == object.0.0) ≡ true = kept.1 in
          let parent : edge.parent.0 ≡ object.0.0 = grind (arith, nat_tests) in
          (object, Contains-head object objects, parent, kept.0)
      | inr later ↦
          let rest = from-leaving edges objects edge later in
          (rest.0, Contains-tail object objects rest.0 rest.1, rest.2, rest.3)
    ]

to-leaving : (edges : List Edge) (objects : List (Oid × Value)) (object : Oid × Value) (edge : Edge) → Contains objects object
    → edge.parent.0 ≡ object.0.0 → Contains edges edge → Contains (leaving edges (oids_of objects)) edge
to-leaving edges [] object edge at parent there = absurd (Contains-none object at)
to-leaving edges (first ∷ objects) object edge at parent there = elim (Contains-cases first objects object at) [
  | inl same ↦
      let number : first.0.0 ≡ object.0.0 = ap (λ (o : Oid × Value). o.0.0) same in
      let passes : (edge.parent.0 == first.0.0) ≡ true = grind (arith, nat_tests) in
      Contains-append_left (out_of first.0 edges) (leaving edges (oids_of objects)) edge
      (Contains-filter (λ (e : Edge). e.parent.0 == first.0.0) edges edge there passes)
  | inr later ↦
      Contains-append_right (out_of first.0 edges) (leaving edges (oids_of objects)) edge
      (to-leaving edges objects object edge later parent there)
]

below : (a b : Edge) → a.parent.0 < b.parent.0 → edge_cmp a b ≡ Less
below a b less = grind (arith, nat_tests)

-- they ascend, since the objects do
leaving-ascend : (edges : List Edge) (objects : List (Oid × Value)) → AreAscendingEdges edges → AreAscendingObjects objects
    → AreAscendingEdges (leaving edges (oids_of objects))
leaving-ascend edges [] ascend numbered = AllPairs-nil (λ a b. edge_cmp a b ≡ Less)
leaving-ascend edges (object ∷ objects) ascend numbered =
    let first = out_of object.0 edges in
    let rest = leaving edges (oids_of objects) in
    AllPairs-append (λ a b. edge_cmp a b ≡ Less) first rest (ascend-out_of edges object.0 ascend)
    (leaving-ascend edges objects ascend (AllPairs-tail (λ a b. a.0.0 < b.0.0) object objects numbered))
    (λ i j d in_first in_rest.
    let a : Edge = get_or first i d in
    let b : Edge = get_or rest j d in
    let kept = unfiltered (λ (e : Edge). e.parent.0 == object.0.0) edges a (Contains-get_or first i d in_first) in
    let passes : (a.parent.0 == object.0.0) ≡ true = kept.1 in
    let parent : a.parent.0 ≡ object.0.0 = grind (arith, nat_tests) in
    let from = from-leaving edges objects b (Contains-get_or rest j d in_rest) in
    let less : object.0.0 < from.0.0.0 = AllPairs-head (λ a b. a.0.0 < b.0.0) object objects numbered from.0 from.1 in
    let other : b.parent.0 ≡ from.0.0.0 = from.2 in
    below a b (omega (arith, parent, less, other)))

-- of a well-formed graph those that leave its objects are all edges, in order
leaving-all : (graph : OemGraph) → IsWellFormed graph → leaving graph.edges (oids_of graph.objects) ≡ graph.edges
leaving-all graph formed =
    one_edge_list (leaving graph.edges (oids_of graph.objects)) graph.edges
    (leaving-ascend graph.edges graph.objects formed.ordered.edges_ascend formed.ordered.objects_ascend)
    formed.ordered.edges_ascend
    (λ edge. (
      λ there. (from-leaving graph.edges graph.objects edge there).3,
      λ there. (
          let linked = All-contains (IsLinked graph.objects) graph.edges edge formed.edges_linked there in
          to-leaving graph.edges graph.objects (edge.parent, Complex) edge linked.parent refl there),
    ))

-- so they are when all objects are done
pub leaving-whole : (graph : OemGraph) (count : ℕ) (edges : List Edge) → IsWellFormed graph → length graph.objects ≤ count
    → edges ≡ leaving graph.edges (take count (oids_of graph.objects)) → edges ≡ graph.edges
leaving-whole graph count edges formed within left =
    let oids = oids_of graph.objects in
    let all : length oids ≤ count =
    omega (arith, within, length-map graph.objects (λ (object : Oid × Value). object.0)) in
    left ∙ ap (leaving graph.edges) (take_all count oids all) ∙ leaving-all graph formed
