-- Edges turned round, and the lists of an object with layers over them.
use Rattle.std.proofs.Common.{◌≡◌, ◌↔◌, ℕ, ◌<◌, ◌==◌, true, Less, Option, Some, None, List, [], ◌++◌, length, get_or, map, Contains, refl, sym, ap, ◌∙◌, inl, inr, subst, arith}
use Rattle.std.specs.List.{filter}
use Rattle.std.specs.Option.{IfSome}
use Rattle.std.proofs.lemmas.Bool.Decides.{nat_tests}
use Rattle.std.proofs.lemmas.List.{get_or-map, length-map, get_or_default}
use Rattle.std.proofs.lemmas.List.Kept.{AllPairs-filter}
use Rattle.slab.specs.Slab.{Slab}
use Rattle.strand_sort.specs.StrandSorts.{AreJoined}
use Rattle.lore_base.specs.Walks.{edge_cmp, entering_cmp, out_of, ListsEntering}
use Rattle.lore_base.specs.Databases.{AreAscendingEdges}
use Rattle.lore_base.proofs.MemberLaws.{Contains-filter, unfiltered}
use Rattle.list_laws.proofs.MemberLaws.{Contains-from_map, Contains-map}
use Rattle.edge_layers.specs.Types.{Side, Out, In, EdgeRecord}
use Rattle.edge_lists.specs.Edges.{owner_of, side_cmp, Ascend}
use Rattle.edge_lists.specs.Records.{HasEdge}
use Rattle.edge_lists.specs.Runs.{ListsRun}
use Rattle.edge_lists.specs.Views.{edges_of}
use Rattle.edge_lists.proofs.ViewLaws.{edges_lie, edges_ascend}
use Rattle.edge_layers.specs.Types.{Oid, Label, Edge}
use Rattle.edge_layers.specs.EdgeTests.{edge_eq}
use Rattle.edge_layers.specs.Layers.{staying, layered}
use Rattle.edge_layers.specs.Turned.{turn, IsLayeredList, ListsLayered, has_label}
use Rattle.edge_layers.specs.inside.Chains.{IsEnteringRun}
use Rattle.edge_layers.proofs.EdgeLaws.{edge_same}
use Rattle.edge_layers.proofs.LayerLaws.{same-edges, members-layered, ascend-layered, members-staying, number_of, number_is}

pub turned_back : (side : Side) (edge : Edge) → turn side (turn side edge) ≡ edge
turned_back Out edge = refl
turned_back In edge = refl

turn_order : (side : Side) (a b : Edge) → side_cmp side a b ≡ edge_cmp (turn side a) (turn side b)
turn_order Out a b = refl
turn_order In a b = refl

turn_owner : (side : Side) (edge : Edge) → owner_of side (turn side edge) ≡ edge.parent
turn_owner Out edge = refl
turn_owner In edge = refl

-- what stands among turned edges
pub in_turned : (side : Side) (edges : List Edge) (edge : Edge) → Contains (map (turn side) edges) edge ↔ Contains edges (turn side edge)
in_turned side edges edge = (
  λ at.
      let from = Contains-from_map (turn side) edges edge at in
      subst (λ (e : Edge). Contains edges e) (sym (turned_back side from.0) ∙ ap (turn side) from.2) from.1,
  λ at. subst (λ (e : Edge). Contains (map (turn side) edges) e) (turned_back side edge) (Contains-map (turn side) edges (turn side edge) at),
)

pub ascend_turned : (side : Side) (edges : List Edge) → Ascend side edges → AreAscendingEdges (map (turn side) edges)
ascend_turned side edges ascend i j d lt len =
    let len_j : j < length edges = omega (arith, len, length-map edges (turn side)) in
    let len_i : i < length edges = omega (arith, lt, len_j) in
    rw (get_or-map (turn side) edges i (turn side d) d len_i, get_or-map (turn side) edges j (turn side d) d len_j)
    (sym (turn_order side (get_or edges i (turn side d)) (get_or edges j (turn side d))) ∙ ascend i j (turn side d) lt len_j)

pub in_run : (oid : Oid) (edges : List Edge) (edge : Edge) → Contains (out_of oid edges) edge ↔ (Contains edges edge × (edge.parent ≡ oid))
in_run oid edges edge = (
  λ at. (let passed = unfiltered (λ (e : Edge). e.parent.0 == oid.0) edges edge at in (passed.0, ap (λ (n : ℕ). record { 0 = n }) (number_of _ _ passed.1))),
  λ both. Contains-filter (λ (e : Edge). e.parent.0 == oid.0) edges edge both.0 (number_is _ _ (ap (λ (o : Oid). o.0) both.1)),
)

-- the list of an object, turned, less what is lost and with what is fresh
pub layered_is : (side : Side) (records : Slab EdgeRecord) (lost fresh : List Edge) (owner : Oid) (kept turned run : List Edge) → ListsRun side records owner [] kept
    → turned ≡ map (turn side) kept → AreJoined edge_cmp edge_eq (staying (out_of owner lost) turned) (out_of owner fresh) run → IsLayeredList side records lost fresh owner run
layered_is side records lost fresh owner kept turned run lists is joined = record {
  ascend = joined.ascend;
  exact = λ edge. (
    λ at. elim ((joined.members edge_same edge).0 at) [
      | inl stays ↦
          let both = (members-staying (out_of owner lost) turned edge).0 stays in
          let there = of_kept edge both.0 in
          (inl (there.0, λ loses. both.1 ((in_run owner lost edge).1 (loses, there.1))), there.1)
      | inr new ↦ (let both = (in_run owner fresh edge).0 new in (inr both.0, both.1))
    ],
    λ both. (joined.members edge_same edge).1 (elim both.0 [
      | inl stays ↦ inl ((members-staying (out_of owner lost) turned edge).1 (kept_of edge stays.0 both.1, λ loses. stays.1 ((in_run owner lost edge).0 loses).0))
      | inr new ↦ inr ((in_run owner fresh edge).1 (new, both.1))
    ]),
  );
}
  where
    of_kept : (edge : Edge) → Contains turned edge → HasEdge records (turn side edge) × (edge.parent ≡ owner)
    of_kept edge at =
        let here = (in_turned side kept edge).0 (subst (λ (l : List Edge). Contains l edge) is at) in
        let both = (lists.exact (turn side edge)).0 (subst (λ (l : List Edge). Contains l (turn side edge)) lists.is here) in
        (both.0, sym (turn_owner side edge) ∙ both.1)

    kept_of : (edge : Edge) → HasEdge records (turn side edge) → edge.parent ≡ owner → Contains turned edge
    kept_of edge has own =
        let here = (lists.exact (turn side edge)).1 (has, turn_owner side edge ∙ own) in
        subst (λ (l : List Edge). Contains l edge) (sym is) ((in_turned side kept edge).1 (subst (λ (l : List Edge). Contains l (turn side edge)) (sym lists.is) here))

-- the turned list ascends
pub kept_ascends : (side : Side) (records : Slab EdgeRecord) (owner : Oid) (kept turned : List Edge) → ListsRun side records owner [] kept → turned ≡ map (turn side) kept → AreAscendingEdges turned
kept_ascends side records owner kept turned lists is =
    subst AreAscendingEdges (sym is) (ascend_turned side kept (subst (λ (l : List Edge). Ascend side l) (sym lists.is) lists.ascends))

-- where no edge of the list is lost or fresh it is the list of the records
pub kept_only : (records : Slab EdgeRecord) (lost fresh : List Edge) (oid : Oid) (old new : List Edge) → ListsRun Out records oid old new → out_of oid lost ≡ [] → out_of oid fresh ≡ []
    → (more : List Edge) × (new ≡ old ++ more) × IsLayeredList Out records lost fresh oid more
kept_only records lost fresh oid old new lists no_lost no_fresh = (
  lists.run,
  lists.is,
  (record {
    ascend = lists.ascends;
    exact = λ edge. (
      λ at. (let both = (lists.exact edge).0 at in (inl (both.0, λ loses. none lost no_lost edge loses both.1), both.1)),
      λ both. elim both.0 [
        | inl stays ↦ (lists.exact edge).1 (stays.0, both.1)
        | inr new ↦ absurd (none fresh no_fresh edge new both.1)
      ],
    );
  }),
)
  where
    none : (edges : List Edge) → out_of oid edges ≡ [] → (edge : Edge) → Contains edges edge → edge.parent ≡ oid → ⊥
    none edges empty edge at own = (let there = subst (λ (l : List Edge). Contains l edge) empty ((in_run oid edges edge).1 (at, own)) in omega (arith, there.1))

-- where the object has no list it is the run of the fresh edges
pub fresh_only : (side : Side) (records : Slab EdgeRecord) (lost fresh : List Edge) (oid : Oid) → AreAscendingEdges fresh
    → ((edge : Edge) → HasEdge records edge → owner_of side edge ≡ oid → ⊥) → IsLayeredList side records lost fresh oid (out_of oid fresh)
fresh_only side records lost fresh oid ascend none = record {
  ascend = AllPairs-filter (λ a b. edge_cmp a b ≡ Less) (λ (e : Edge). e.parent.0 == oid.0) fresh ascend;
  exact = λ edge. (
    λ at. (let both = (in_run oid fresh edge).0 at in (inr both.0, both.1)),
    λ both. elim both.0 [
      | inl stays ↦ absurd (none (turn side edge) stays.0 (turn_owner side edge ∙ both.1))
      | inr new ↦ (in_run oid fresh edge).1 (new, both.1)
    ],
  );
}

-- ---- as readers see them
pub leaving_is : (records : Slab EdgeRecord) (lost fresh : List Edge) (oid : Oid) (list : List Edge) → IsLayeredList Out records lost fresh oid list
    → list ≡ out_of oid (layered (edges_of records) lost fresh)
leaving_is records lost fresh oid list is =
    same-edges list (out_of oid whole) is.ascend
    (AllPairs-filter (λ a b. edge_cmp a b ≡ Less) (λ (e : Edge). e.parent.0 == oid.0) whole (ascend-layered (edges_of records) lost fresh (edges_ascend records)))
    (λ edge. (
      λ at.
          let both = (is.exact edge).0 at in
          (in_run oid whole edge).1 ((members-layered (edges_of records) lost fresh edge).1 (elim both.0 [ inl stays ↦ inl ((edges_lie records edge).1 stays.0, stays.1) | inr new ↦ inr new ]), both.1),
      λ at.
          let both = (in_run oid whole edge).0 at in
          (is.exact edge).1 (elim ((members-layered (edges_of records) lost fresh edge).0 both.0) [ inl stays ↦ inl ((edges_lie records edge).0 stays.0, stays.1) | inr new ↦ inr new ], both.1),
    ))
  where
    whole : List Edge
    whole = layered (edges_of records) lost fresh

pub leaving_ascends : (records : Slab EdgeRecord) (lost fresh : List Edge) (oid : Oid) → AreAscendingEdges (out_of oid (layered (edges_of records) lost fresh))
leaving_ascends records lost fresh oid =
    AllPairs-filter (λ a b. edge_cmp a b ≡ Less) (λ (e : Edge). e.parent.0 == oid.0) (layered (edges_of records) lost fresh) (ascend-layered (edges_of records) lost fresh (edges_ascend records))

has_it : (given : Option Label) (edge : Edge) → has_label given edge ≡ true → IfSome given (λ label. edge.label ≡ label)
has_it None edge h = tt
has_it (Some given) edge h =
    let number : edge.label.0 ≡ given.0 = grind (arith, nat_tests) in
    ap (λ n. record { 0 = n }) number

passes : (given : Option Label) (edge : Edge) → IfSome given (λ label. edge.label ≡ label) → has_label given edge ≡ true
passes None edge h = refl
passes (Some given) edge h =
    let number : edge.label.0 ≡ given.0 = ap (λ (l : Label). l.0) h in
    grind (arith, nat_tests)

-- the label stays where an edge is turned
label_kept : (given : Option Label) (edge : Edge) → has_label given (turn In edge) ≡ has_label given edge
label_kept None edge = refl
label_kept (Some given) edge = refl

within : (a b : Edge) → edge_cmp a b ≡ Less → a.parent.0 ≡ b.parent.0 → entering_cmp (turn In a) (turn In b) ≡ Less
within a b less same = grind (arith, nat_tests)

pub entering_is : (records : Slab EdgeRecord) (lost fresh lost_in fresh_in : List Edge) (oid : Oid) (given : Option Label) (edges : List Edge) → IsEnteringRun lost oid lost_in
    → IsEnteringRun fresh oid fresh_in → ListsLayered records lost_in fresh_in oid given edges → ListsEntering (layered (edges_of records) lost fresh) oid given edges
entering_is records lost fresh lost_in fresh_in oid given edges lost_run fresh_run lists =
    subst (λ (l : List Edge). ListsEntering whole oid given l) (sym lists.2) of_list
  where
    whole : List Edge
    whole = layered (edges_of records) lost fresh

    list : List Edge
    list = lists.0

    kept : List Edge
    kept = filter (has_label given) list

    of_list : ListsEntering whole oid given (map (turn In) kept)
    of_list = record {
      ascending = λ i j d lt len.
          let len_j : j < length kept = omega (arith, len, length-map kept (turn In)) in
          let len_i : i < length kept = omega (arith, lt, len_j) in
          let e = turn In d in
          let less = AllPairs-filter (λ a b. edge_cmp a b ≡ Less) (has_label given) list lists.1.ascend i j e lt len_j in
          let own_i = ((lists.1.exact (get_or kept i e)).0 (unfiltered (has_label given) list (get_or kept i e) (i, len_i, default_i i e len_i)).0).1 in
          let own_j = ((lists.1.exact (get_or kept j e)).0 (unfiltered (has_label given) list (get_or kept j e) (j, len_j, default_i j e len_j)).0).1 in
          rw (get_or-map (turn In) kept i e d len_i, get_or-map (turn In) kept j e d len_j)
          (within (get_or kept i e) (get_or kept j e) less (ap (λ (o : Oid). o.0) (own_i ∙ sym own_j)));
      exact = λ edge. (
        λ at.
            let here = (in_turned In kept edge).0 at in
            let parts = unfiltered (has_label given) list (turn In edge) here in
            let both = (lists.1.exact (turn In edge)).0 parts.0 in (
              (members-layered (edges_of records) lost fresh edge).1 (elim both.0 [
                | inl stays ↦ inl ((edges_lie records edge).1 stays.0, λ loses. stays.1 ((lost_run.exact (turn In edge)).1 (loses, both.1)))
                | inr new ↦ inr ((fresh_run.exact (turn In edge)).0 new).0
              ]),
              both.1,
              has_it given edge (sym (label_kept given edge) ∙ parts.1),
            ),
        λ h. (in_turned In kept edge).1 (Contains-filter (has_label given) list (turn In edge) ((lists.1.exact (turn In edge)).1 (
          elim ((members-layered (edges_of records) lost fresh edge).0 h.0) [
            | inl stays ↦ inl ((edges_lie records edge).0 stays.0, λ loses. stays.1 ((lost_run.exact (turn In edge)).0 loses).0)
            | inr new ↦ inr ((fresh_run.exact (turn In edge)).1 (new, h.1))
          ],
          h.1,
        )) (label_kept given edge ∙ passes given edge h.2)),
      );
    }
      where
        default_i : (k : ℕ) (e : Edge) → k < length kept → get_or kept k (get_or kept k e) ≡ get_or kept k e
        default_i k e lt = get_or_default kept k (get_or kept k e) e lt
