-- Changes that only make objects, all reached, and add edges leave the graph of before with these behind.
use Rattle.std.proofs.Common.{◌≡◌, ◌≢◌, ℕ, ◌+◌, ◌<◌, ◌≤◌, ◌⊎◌, inl, inr, ◌↔◌, List, ◌++◌, length, get_or}
use Rattle.std.proofs.Common.{subst, refl, sym, ap, ◌∙◌, Less, arith, length-append}
use Rattle.std.specs.List.{AllPairs, Contains}
use Rattle.std.proofs.lemmas.List.Elements.{All-contains, All-get_or, Contains-append_left, Contains-append_right}
use Rattle.std.proofs.lemmas.List.Elements.{Contains-append_cases, Contains-get_or}
use Rattle.lore_base.specs.Walks.{edge_cmp}
use Rattle.lore_base.specs.Databases.{OemGraph, IsLinked, AreAscendingObjects, AreAscendingEdges, IsReached}
use Rattle.lore_base.specs.Databases.{IsRooted}
use Rattle.lore_base.specs.ChangeSets.{NamesThen, ObjectsThen, EdgesThen, AreEdgesThen, IsReachedThen, IsAtHand}
use Rattle.lore_base.specs.ChangeSets.{IsGraphAfter}
use Rattle.lore_base.proofs.ListLaws.{AllPairs-append}
use Rattle.lore_base.proofs.WalkLaws.{Walk-within}
use Rattle.oem_changes.specs.Types.{Oid, Edge, Value, Complex, Changes}
use Rattle.oem_changes.specs.Growth.{Grows}
use Rattle.oem_changes.specs.Laws.{ChangesGrow}
use Rattle.lore_base.proofs.ToldLaws.{told_member, told_edge}
use Rattle.list_laws.proofs.AscentLaws.{AllPairs-within}
use Rattle.list_laws.proofs.SumLaws.{distinct_as_long}
use Rattle.list_laws.proofs.MemberLaws.{none_in}
use Rattle.oem_changes.proofs.EdgeOrderLaws.{edges_ordered}
use Rattle.oem_changes.proofs.DeterminedLaws.{one_after}
use Rattle.oem_changes.proofs.RootedLaws.{numbered_within}
use Rattle.oem_changes.proofs.SomeAfterLaws.{some_between, numbered_ascend}

-- ascending edges are distinct
pub ascend-distinct : (edges : List Edge) → AreAscendingEdges edges → AllPairs (λ a b. a ≢ b) edges
ascend-distinct edges ascend =
    AllPairs-within (λ (a b : Edge). edge_cmp a b ≡ Less) (λ (a b : Edge). a ≢ b) edges
    (λ a b at_a at_b below same. edges_ordered.apart b
    (subst (λ (edge : Edge). edge_cmp edge b ≡ Less) same below)) ascend

module _ (before : OemGraph) (changes : Changes) (fresh : List Edge) (rooted : IsRooted before)
    (grows : Grows before changes fresh) where
  -- names then are those of before
  names_then : (entry : List ℕ × Oid) → Contains before.names entry ↔ NamesThen before.names changes entry
  names_then entry = (
    λ at. inr (
      at,
      λ renamed. elim renamed [
        | inl bound ↦ none_in changes.named (entry.0, bound.0) grows.named bound.1
        | inr taken ↦ none_in changes.unnamed entry.0 grows.unnamed taken
      ],
    ),
    λ then. elim then [ inl new ↦ absurd (none_in changes.named entry grows.named new) | inr old ↦ old.0 ],
  )

  -- objects then are those of before and those made
  objects_then : (object : Oid × Value)
      → Contains (before.objects ++ changes.made) object ↔ ObjectsThen before.objects changes object
  objects_then object = (
    λ at. elim (Contains-append_cases before.objects changes.made object at) [
      | inl old ↦ inr (inr (old, λ valued. none_in changes.values (object.0, valued.0) grows.values valued.1))
      | inr made ↦ inl made
    ],
    λ then. elim then [
      | inl made ↦ Contains-append_right before.objects changes.made object made
      | inr kept ↦ elim kept [
        | inl valued ↦ absurd (none_in changes.values object grows.values valued)
        | inr old ↦ Contains-append_left before.objects changes.made object old.0
      ]
    ],
  )

  -- edges then are those added and those of before
  edges_then : (edge : Edge)
      → EdgesThen before.edges changes edge ↔ (Contains changes.added edge ⊎ Contains before.edges edge)
  edges_then edge = (
    λ then. elim then [ inl added ↦ inl added | inr kept ↦ inr kept.0 ],
    λ either. elim either [
      | inl added ↦ inl added
      | inr old ↦ inr
          (old, λ gone. none_in changes.removed edge grows.removed gone)
    ],
  )

  objects_ascend : AreAscendingObjects (before.objects ++ changes.made)
  objects_ascend =
      AllPairs-append (λ (a b : Oid × Value). a.0.0 < b.0.0) before.objects changes.made
      rooted.well_formed.ordered.objects_ascend (numbered_ascend before.next changes.made grows.numbered)
      (λ i j d within_old within_made.
      let old = All-get_or
      (λ (o : Oid × Value). (1 ≤ o.0.0)
      × (o.0.0 < before.next)) before.objects i d within_old rooted.well_formed.ordered.objects_numbered in
      let made = numbered_within before.next changes.made grows.numbered (get_or changes.made j d)
      (Contains-get_or changes.made j d within_made) in
      omega (arith, old.1, made.0))

  module _ (between : List Edge) (linked : AreEdgesThen before.edges changes between) where
    -- what was reached is reached then
    still_reached : (oid : Oid) → IsReached before.names before.edges oid
        → IsReachedThen before.names changes between oid
    still_reached oid h = record {
      name = h.name;
      start = h.start;
      word = h.word;
      named = (names_then (h.name, h.start)).0 h.named;
      walked = Walk-within before.edges between
          (λ edge at. (linked.exact edge).1 ((edges_then edge).1 (inr at))) h.start h.word oid h.walked;
    }

    hand_reached : (oid : Oid) → IsAtHand before changes oid → IsReachedThen before.names changes between oid
    hand_reached oid hand = elim hand [
      | inl live ↦ still_reached oid
          (All-contains (λ (o : Oid × Value). IsReached before.names before.edges o.0) before.objects
          (oid, live.0) rooted.reached live.1)
      | inr made ↦ All-contains (λ (o : Oid × Value). IsReachedThen before.names changes between o.0) changes.made
          (oid, made.0)
          (grows.reached between linked) made.1
    ]

    -- so are all objects then
    object_reached : (object : Oid × Value) → Contains (before.objects ++ changes.made) object
        → IsReachedThen before.names changes between object.0
    object_reached object at = hand_reached object.0
        (elim (Contains-append_cases before.objects changes.made object at) [
          | inl old ↦ inl (object.1, old)
          | inr made ↦ inr (object.1, made)
        ])

    -- and the parents of all edges then
    parent_reached : (edge : Edge) → Contains between edge → IsReachedThen before.names changes between edge.parent
    parent_reached edge at = hand_reached edge.parent (elim ((edges_then edge).0 ((linked.exact edge).0 at)) [
      | inl added ↦ All-contains (λ (e : Edge). IsAtHand before changes e.parent) changes.added edge grows.parents added
      | inr old ↦ inl (
        Complex,
        (All-contains (IsLinked before.objects) before.edges edge rooted.well_formed.edges_linked old).parent,
      )
    ])

    -- the graph of before with what is made, and the edges then
    pub grown_along : IsGraphAfter before changes (record {
      names = before.names;
      objects = before.objects ++ changes.made;
      edges = between;
      next = before.next + length changes.made;
    })
    grown_along = record {
      between = between;
      linked = linked;
      names_ascend = rooted.well_formed.ordered.names_ascend;
      names = names_then;
      objects_ascend = objects_ascend;
      objects = λ object. (
        λ at. ((objects_then object).0 at, object_reached object at),
        λ left. (objects_then object).1 left.0,
      );
      edges_ascend = linked.ascend;
      edges = λ edge. (λ at. (at, parent_reached edge at), λ left. left.0);
      next = refl;
    }

    -- how many edges there are then
    edges_many : length between ≡ length before.edges + length fresh
    edges_many =
        distinct_as_long between (before.edges ++ fresh) (ascend-distinct between linked.ascend)
        (AllPairs-append (λ (a b : Edge). a ≢ b) before.edges fresh
        (ascend-distinct before.edges rooted.well_formed.ordered.edges_ascend) grows.distinct
        (λ i j d within_old within_fresh same.
        ((grows.exact (get_or fresh j d)).0 (Contains-get_or fresh j d within_fresh)).1
        (subst (Contains before.edges) same (Contains-get_or before.edges i d within_old))))
        (λ edge. (
          λ at. elim (told_member told_edge before.edges edge) [
            | inl old ↦ Contains-append_left before.edges fresh edge old
            | inr new ↦ Contains-append_right before.edges fresh edge ((grows.exact edge).1
                (elim ((edges_then edge).0 ((linked.exact edge).0 at)) [
                  | inl added ↦ (added, new)
                  | inr old ↦ absurd
                      (new old)
                ]))
          ],
          λ at. (linked.exact edge).1 ((edges_then edge).1 (elim (Contains-append_cases before.edges fresh edge at) [
            | inl old ↦ inr old
            | inr new ↦ inl ((grows.exact edge).0 new).0
          ])),
        ))
        ∙ length-append before.edges fresh

  -- the changes leave some graph
  pub grown : (after : OemGraph) × IsGraphAfter before changes after
  grown =
      let between = some_between before.edges changes in (
        record {
          names = before.names;
          objects = before.objects ++ changes.made;
          edges = between.0;
          next = before.next + length changes.made;
        },
        grown_along between.0 between.1,
      )

  module _ (after : OemGraph) (leaves : IsGraphAfter before changes after) where
    same_graph : after ≡ record {
      names = before.names;
      objects = before.objects ++ changes.made;
      edges = leaves.between;
      next = before.next + length changes.made;
    }
    same_graph = one_after before changes after _ leaves (grown_along leaves.between leaves.linked)

    pub grown-names : after.names ≡ before.names
    grown-names = ap (λ (g : OemGraph). g.names) same_graph

    pub grown-objects : after.objects ≡ before.objects ++ changes.made
    grown-objects = ap (λ (g : OemGraph). g.objects) same_graph

    pub grown-objects_many : length after.objects ≡ length before.objects + length changes.made
    grown-objects_many = ap length grown-objects ∙ length-append before.objects changes.made

    pub grown-edges : (edge : Edge)
        → Contains after.edges edge ↔ (Contains changes.added edge ⊎ Contains before.edges edge)
    grown-edges edge =
        let same : after.edges ≡ leaves.between = ap (λ (g : OemGraph). g.edges) same_graph in (
          λ at. (edges_then edge).0 ((leaves.linked.exact edge).0 (subst (λ (l : List Edge). Contains l edge) same at)),
          λ either. subst (λ (l : List Edge). Contains l edge) (sym same)
              ((leaves.linked.exact edge).1 ((edges_then edge).1 either)),
        )

    pub grown-edges_many : length after.edges ≡ length before.edges + length fresh
    grown-edges_many = ap (λ (g : OemGraph). length g.edges) same_graph ∙ edges_many leaves.between leaves.linked

-- all of it
pub grown_graph : ChangesGrow
grown_graph before changes fresh rooted grows =
    let some = grown before changes fresh rooted grows in (
      some.0,
      record {
        leaves = some.1;
        names = grown-names before changes fresh rooted grows some.0 some.1;
        objects = grown-objects before changes fresh rooted grows some.0 some.1;
        edges = grown-edges_many before changes fresh rooted grows some.0 some.1;
      },
    )
