-- What a graph becomes with changes, from the lists of what is left.
use Rattle.std.proofs.Common.{◌≡◌, ℕ, ◌+◌, ◌<◌, ◌≤◌, ◌↔◌, ◌⊎◌, not, inl, inr, List, length, get_or}
use Rattle.std.proofs.Common.{All, Contains, sym, ap, ◌∙◌, subst, Less, arith}
use Rattle.std.proofs.lemmas.List.Elements.{Contains-get_or, Contains-append_cases, Contains-append_left, All-contains}
use Rattle.std.proofs.lemmas.List.Elements.{Contains-append_right}
use Rattle.std.proofs.lemmas.List.Kept.{AllPairs-filter}
use Rattle.lore_base.proofs.ListLaws.{AllPairs-append}
use Rattle.index_traits.proofs.ObjectLaws.{told_live}
use Rattle.lore_base.specs.Names.{IsNameTable}
use Rattle.lore_base.specs.Walks.{edge_cmp}
use Rattle.lore_base.specs.Databases.{OemGraph, IsWellFormed, IsLinked, IsLive, AreAscendingObjects, AreAscendingEdges}
use Rattle.lore_base.specs.ChangeSets.{NamesThen, ObjectsThen, EdgesThen, IsLiveThen, IsComplexThen, IsAtHand}
use Rattle.lore_base.specs.ChangeSets.{IsReachedThen, AreEdgesThen, FitsGraph, IsGraphAfter}
use Rattle.lore_base.specs.ChangeSets.{AreDead}
use Rattle.oem_graph.specs.Types.{Oid, Edge, Value, Complex, Changes}
use Rattle.oem_graph.specs.Plans.{PlannedGraph, graph_then}
use Rattle.graph_changes.specs.Puts.{with_objects, put_edges}
use Rattle.edge_layers.specs.EdgeTests.{AreFresh, AreLost}
use Rattle.edge_layers.specs.Layers.{layered, staying}
use Rattle.graph_changes.specs.Left.{AreOrdered, ListsGiven, is_among, not_dead, edges_left}
use Rattle.edge_layers.proofs.LayerLaws.{same-edges, members-staying, ascend-staying, members-layered}
use Rattle.graph_changes.proofs.LeftLaws.{members-not_dead, ascend-not_dead, members-edges_left}
use Rattle.graph_changes.proofs.GivenLaws.{members-with_objects, ascend-with_objects}
use Rattle.graph_changes.proofs.PutLaws.{members-put_edges, ascend-put_edges}
use Rattle.graph_changes.proofs.ObjectLaws.{number_at}

module _ (before : OemGraph) (changes : Changes) (formed : IsWellFormed before) (fits : FitsGraph before changes) where
  -- what is live stays live until things vanish
  live-then : (oid : Oid) → IsLive before.objects oid → IsLiveThen before.objects changes oid
  live-then oid live = elim (told_live changes.values oid) [
    | inl given ↦ (given.0, inr (inl given.1))
    | inr none ↦ (live.0, inr (inr (live.1, none)))
  ]

  -- the parent of an edge then is live then
  parent-live : (edge : Edge) → EdgesThen before.edges changes edge → IsLiveThen before.objects changes edge.parent
  parent-live edge then = elim then [
    | inl added ↦ (Complex, (All-contains (λ (e : Edge). IsComplexThen before.objects changes e.parent × IsAtHand before changes e.child) changes.added edge fits.added added).0)
    | inr kept ↦ live-then edge.parent (Complex, (All-contains (IsLinked before.objects) before.edges edge formed.edges_linked kept.0).parent)
  ]

  module _ (dead : List Oid) (are : AreDead before changes dead) (edges : List Edge) (linked : AreEdgesThen before.edges changes edges) where
    between-is : are.between ≡ edges
    between-is = same-edges are.between edges are.linked.ascend linked.ascend (λ edge.
        (λ at. (linked.exact edge).1 ((are.linked.exact edge).0 at), λ at. (are.linked.exact edge).1 ((linked.exact edge).0 at)))

    -- what is live then is reached where it isn't dead, and only there
    reached : (oid : Oid) → IsLiveThen before.objects changes oid → (Contains dead oid → ⊥) → IsReachedThen before.names changes edges oid
    reached oid live living = elim (are.stay oid live) [
      | inl gone ↦ absurd (living gone)
      | inr walked ↦ subst (λ (b : List Edge). IsReachedThen before.names changes b oid) between-is walked
    ]

    undead : (oid : Oid) → IsReachedThen before.names changes edges oid → Contains dead oid → ⊥
    undead oid walked gone = (are.vanish oid gone).1 (subst (λ (b : List Edge). IsReachedThen before.names changes b oid) (sym between-is) walked)

    module _ (given : List (Oid × Value)) (lists : ListsGiven changes dead given) where
      abbrev values : List (Oid × Value)
      values = lists.0

      ordered : AreOrdered changes.values values
      ordered = lists.1

      -- what is given: new values and made objects that don't die
      in-given : (o : Oid × Value) → Contains given o → (Contains changes.values o ⊎ Contains changes.made o) × (Contains dead o.0 → ⊥)
      in-given o at = elim (Contains-append_cases (not_dead dead values) (not_dead dead changes.made) o (subst (λ (l : List (Oid × Value)). Contains l o) lists.2 at)) [
        | inl new ↦ (let both = (members-not_dead dead values o).0 new in (inl ((ordered.members o).0 both.0), both.1))
        | inr made ↦ (let both = (members-not_dead dead changes.made o).0 made in (inr both.0, both.1))
      ]

      value-given : (o : Oid × Value) → Contains changes.values o → (Contains dead o.0 → ⊥) → Contains given o
      value-given o at lives = subst (λ (l : List (Oid × Value)). Contains l o) (sym lists.2)
          (Contains-append_left (not_dead dead values) (not_dead dead changes.made) o ((members-not_dead dead values o).1 ((ordered.members o).1 at, lives)))

      made-given : (o : Oid × Value) → Contains changes.made o → (Contains dead o.0 → ⊥) → Contains given o
      made-given o at lives = subst (λ (l : List (Oid × Value)). Contains l o) (sym lists.2)
          (Contains-append_right (not_dead dead values) (not_dead dead changes.made) o ((members-not_dead dead changes.made o).1 (at, lives)))

      made-number : (o : Oid × Value) → Contains changes.made o → before.next ≤ o.0.0
      made-number o at = omega (arith, number_at before.next changes.made fits.numbered o at.0 at.1, ap (λ (x : Oid × Value). x.0.0) at.2)

      old-number : (o : Oid × Value) → Contains before.objects o → o.0.0 < before.next
      old-number o at = (All-contains (λ (x : Oid × Value). (1 ≤ x.0.0) × (x.0.0 < before.next)) before.objects o formed.ordered.objects_numbered at).1

      value-number : (o : Oid × Value) → Contains changes.values o → o.0.0 < before.next
      value-number o at =
          let live = All-contains (λ (x : Oid × Value). IsLive before.objects x.0) changes.values o fits.values_live at in
          old-number (o.0, live.0) live.1

      pub given-ascends : AreAscendingObjects given
      given-ascends = subst AreAscendingObjects (sym lists.2)
          (AllPairs-append (λ (a b : Oid × Value). a.0.0 < b.0.0) (not_dead dead values) (not_dead dead changes.made)
          (ascend-not_dead dead values ordered.ascend)
          (ascend-not_dead dead changes.made (λ i j d lt len. omega (arith, number_at before.next changes.made fits.numbered d i (omega arith), number_at before.next changes.made fits.numbered d j len)))
          (λ i j d lt_i lt_j.
          let first = ((members-not_dead dead values (get_or (not_dead dead values) i d)).0 (Contains-get_or (not_dead dead values) i d lt_i)).0 in
          let second = ((members-not_dead dead changes.made (get_or (not_dead dead changes.made) j d)).0 (Contains-get_or (not_dead dead changes.made) j d lt_j)).0 in
          omega (arith, value-number _ ((ordered.members (get_or (not_dead dead values) i d)).0 first), made-number _ second)))

      pub given-lives : All (λ object. ¬ Contains dead object.0) given
      given-lives k d lt = (in-given (get_or given k d) (Contains-get_or given k d lt)).1

      objects-then : (o : Oid × Value) → Contains (with_objects (not_dead dead before.objects) given) o → ObjectsThen before.objects changes o × (Contains dead o.0 → ⊥)
      objects-then o at = elim ((members-with_objects (not_dead dead before.objects) given (ascend-not_dead dead before.objects formed.ordered.objects_ascend) given-ascends o).0 at) [
        | inl new ↦ (let both = in-given o new in (elim both.0 [ inl value ↦ inr (inl value) | inr made ↦ inl made ], both.1))
        | inr old ↦
            let both = (members-not_dead dead before.objects o).0 old.0 in
            (inr (inr (both.0, λ live. old.1 (live.0, value-given (o.0, live.0) live.1 both.1))), both.1)
      ]

      then-objects : (o : Oid × Value) → ObjectsThen before.objects changes o → (Contains dead o.0 → ⊥) → Contains (with_objects (not_dead dead before.objects) given) o
      then-objects o then lives = (members-with_objects (not_dead dead before.objects) given (ascend-not_dead dead before.objects formed.ordered.objects_ascend) given-ascends o).1 (elim then [
        | inl made ↦ inl (made-given o made lives)
        | inr older ↦ elim older [
          | inl value ↦ inl (value-given o value lives)
          | inr stays ↦ inr (
            (members-not_dead dead before.objects o).1 (stays.0, lives),
            λ live. elim (in-given (o.0, live.0) live.1).0 [
              | inl value ↦ stays.1 (live.0, value)
              | inr made ↦ omega (arith, made-number (o.0, live.0) made, old-number o stays.0)
            ],
          )
        ]
      ])

      -- the graph that the plan leads to
      pub graph-after : (plan : PlannedGraph) → plan.dead ≡ dead
          → with_objects (not_dead dead before.objects) plan.delta.objects_come ≡ with_objects (not_dead dead before.objects) given → IsNameTable plan.names
          → ((entry : List ℕ × Oid) → Contains plan.names entry ↔ NamesThen before.names changes entry)
          → ((edge : Edge) → Contains (graph_then before plan).edges edge ↔ (Contains edges edge × (Contains dead edge.parent → ⊥)))
          → AreAscendingEdges (graph_then before plan).edges → plan.next ≡ before.next + length changes.made → IsGraphAfter before changes (graph_then before plan)
      graph-after plan dead_is given_is names_ascend names are_edges ascend next = record {
        between = edges;
        linked = linked;
        names_ascend = names_ascend;
        names = names;
        objects_ascend = subst AreAscendingObjects (sym objects_are) (ascend-with_objects (not_dead dead before.objects) given (ascend-not_dead dead before.objects formed.ordered.objects_ascend));
        objects = λ object. (
          λ at.
              let then = objects-then object (subst (λ (l : List (Oid × Value)). Contains l object) objects_are at) in
              (then.0, reached object.0 (object.1, then.0) then.1),
          λ both. subst (λ (l : List (Oid × Value)). Contains l object) (sym objects_are) (then-objects object both.0 (undead object.0 both.1)),
        );
        edges_ascend = ascend;
        edges = λ edge. (
          λ at. (let there = (are_edges edge).0 at in (there.0, reached edge.parent (parent-live edge ((linked.exact edge).0 there.0)) there.1)),
          λ both. (are_edges edge).1 (both.0, undead edge.parent both.1),
        );
        next = next;
      }
        where
          objects_are : (graph_then before plan).objects ≡ with_objects (not_dead dead before.objects) given
          objects_are = ap (λ (d : List Oid). with_objects (not_dead d before.objects) plan.delta.objects_come) dead_is ∙ given_is

-- which edges there are then
pub edges-after : (kept lost fresh gone come : List Edge) (dead : List Oid) → AreAscendingEdges kept → (added removed : List Edge) → AreLost kept removed lost → AreFresh kept added fresh
    → ((edge : Edge) → Contains gone edge ↔ (Contains lost edge ⊎ (Contains kept edge × Contains dead edge.parent))) → come ≡ edges_left dead fresh
    → AreAscendingEdges (put_edges (staying gone kept) come)
    × ((edge : Edge) → Contains (put_edges (staying gone kept) come) edge ↔ (Contains (layered kept lost fresh) edge × (Contains dead edge.parent → ⊥)))
edges-after kept lost fresh gone come dead ascend added removed losing coming going is = (
  ascend-put_edges (staying gone kept) come (ascend-staying gone kept ascend)
      (subst AreAscendingEdges (sym is) (AllPairs-filter (λ a b. edge_cmp a b ≡ Less) (λ (e : Edge). not (is_among dead e.parent)) fresh coming.ascend))
      (λ edge at there. (coming.come edge (in_come edge at).0).1 ((members-staying gone kept edge).0 there).0),
  λ edge. (
    λ at. elim ((members-put_edges (staying gone kept) come edge).0 at) [
      | inl stays ↦
          let both = (members-staying gone kept edge).0 stays in
          ((members-layered kept lost fresh edge).1 (inl (both.0, λ loses. both.1 ((going edge).1 (inl loses)))), λ dies. both.1 ((going edge).1 (inr (both.0, dies))))
      | inr new ↦ (let both = in_come edge new in ((members-layered kept lost fresh edge).1 (inr both.0), both.1))
    ],
    λ both. (members-put_edges (staying gone kept) come edge).1 (elim ((members-layered kept lost fresh edge).0 both.0) [
      | inl stays ↦ inl ((members-staying gone kept edge).1 (stays.0, λ goes. elim ((going edge).0 goes) [ inl loses ↦ stays.1 loses | inr dies ↦ both.1 dies.1 ]))
      | inr new ↦ inr (subst (λ (l : List Edge). Contains l edge) (sym is) ((members-edges_left dead fresh edge).1 (new, both.1)))
    ]),
  ),
)
  where
    in_come : (edge : Edge) → Contains come edge → Contains fresh edge × (Contains dead edge.parent → ⊥)
    in_come edge at = (members-edges_left dead fresh edge).0 (subst (λ (l : List Edge). Contains l edge) is at)
