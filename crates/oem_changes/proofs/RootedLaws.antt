-- After changes that fit it a well-formed graph is well-formed again, and each of its objects is reached.
use Rattle.std.proofs.Common.{◌≡◌, ℕ, ◌+◌, ◌<◌, ◌≤◌, ◌⊎◌, inl, inr, List, [], ◌∷◌, ◌++◌, length, subst, refl, arith}
use Rattle.std.specs.List.{Contains}
use Rattle.std.proofs.lemmas.List.Elements.{All-contains}
use Rattle.oem_changes.specs.Types.{Oid, Label, Edge, Value, Complex, Changes}
use Rattle.lore_base.specs.Names.{IsName}
use Rattle.lore_base.specs.Walks.{Walk, edge_of}
use Rattle.lore_base.specs.Databases.{OemGraph, IsLive, IsSized, IsOrdered, IsLinked, IsWellFormed}
use Rattle.lore_base.specs.Databases.{IsReached, IsRooted}
use Rattle.lore_base.specs.ChangeSets.{NamesThen, ObjectsThen, IsLiveThen, IsComplexThen, IsReachedThen}
use Rattle.lore_base.specs.ChangeSets.{AreNumberedFrom, IsAtHand, HasChildren, FitsGraph, IsGraphAfter}
use Rattle.lore_base.proofs.MemberLaws.{Contains-none, Contains-cases}
use Rattle.lore_base.proofs.WalkLaws.{Walk-push}
use Rattle.lore_base.proofs.ToldLaws.{IsTold, told_oid, told_paired}
use Rattle.list_laws.proofs.MemberLaws.{All-from_members}

-- whether an object has a value in a list
pub told_live : (objects : List (Oid × Value)) (oid : Oid) → IsTold (IsLive objects oid)
told_live objects oid = told_paired told_oid objects oid

-- numbered objects have numbers from the first on, below the first that is free behind them
pub numbered_within : (next : ℕ) (objects : List (Oid × Value)) → AreNumberedFrom next objects → (object : Oid × Value)
    → Contains objects object
    → (next ≤ object.0.0) × (object.0.0 < next + length objects)
numbered_within next [] numbered object at = absurd (Contains-none object at)
numbered_within next (first ∷ others) numbered object at = elim (Contains-cases first others object at) [
  | inl same ↦ (
      let is : object.0.0 ≡ next = subst (λ (o : Oid × Value). o.0.0 ≡ next) same numbered.0 in
      (omega (arith, is), omega (arith, is)))
  | inr later ↦ (
      let behind = numbered_within (next + 1) others numbered.1 object later in
      (omega (arith, behind.0), omega (arith, behind.1)))
]

-- what a value is given to keeps being live, and so does the rest
pub live_then : (objects : List (Oid × Value)) (changes : Changes) (oid : Oid) → IsLive objects oid
    → IsLiveThen objects changes oid
live_then objects changes oid live = elim (told_live changes.values oid) [
  | inl valued ↦ (valued.0, inr (inl valued.1))
  | inr none ↦ (live.0, inr (inr (live.1, none)))
]

-- what is at hand is live then
pub hand_live : (before : OemGraph) (changes : Changes) (oid : Oid) → IsAtHand before changes oid
    → IsLiveThen before.objects changes oid
hand_live before changes oid hand = elim hand [
  | inl live ↦ live_then before.objects changes oid live
  | inr made ↦ (made.0, inl made.1)
]

-- a step from a reached object leads to a reached one
pub reached_push : (names : List (List ℕ × Oid)) (changes : Changes) (between : List Edge) (x : Oid) (label : Label)
    (y : Oid)
    → Contains between (edge_of x label y) → IsReachedThen names changes between x
    → IsReachedThen names changes between y
reached_push names changes between x label y edge reached = record {
  name = reached.name;
  start = reached.start;
  word = reached.word ++ label ∷ [];
  named = reached.named;
  walked = Walk-push between reached.start reached.word x label y reached.walked edge;
}

-- what a name has is reached
pub reached_start : (names : List (List ℕ × Oid)) (changes : Changes) (between : List Edge) (name : List ℕ)
    (start : Oid)
    → NamesThen names changes (name, start) → IsReachedThen names changes between start
reached_start names changes between name start named =
    record { name = name; start = start; word = []; named = named; walked = refl }

module _ (before : OemGraph) (changes : Changes) (formed : IsWellFormed before) (fits : FitsGraph before changes) where
  -- a complex parent of an edge stays complex
  parent_then : (edge : Edge) → Contains before.edges edge → IsComplexThen before.objects changes edge.parent
  parent_then edge at =
      let linked = All-contains (IsLinked before.objects) before.edges edge formed.edges_linked at in
      elim (told_live changes.values edge.parent) [
        | inr none ↦ inr (inr (linked.parent, none))
        | inl valued ↦ elim (All-contains
            (λ (object : Oid × Value). (object.1 ≡ Complex) ⊎ (¬ HasChildren before.edges object.0))
            changes.values (edge.parent, valued.0) fits.values_childless valued.1) [
              | inl complex ↦ inr (inl
                  (subst (λ (value : Value). Contains changes.values (edge.parent, value)) complex valued.1))
              | inr childless ↦ absurd (childless (edge, at, refl))
            ]
      ]

  -- the number of what is live then
  number_then : (object : Oid × Value) → ObjectsThen before.objects changes object
      → (1 ≤ object.0.0) × (object.0.0 < before.next + length changes.made)
  number_then object then =
      let first = formed.ordered.next_numbered.0 in
      let old : (value : Value) → Contains before.objects (object.0, value)
      → (1 ≤ object.0.0) × (object.0.0 < before.next) =
      λ value at. All-contains (λ (o : Oid × Value). (1 ≤ o.0.0) × (o.0.0 < before.next)) before.objects
      (object.0, value) formed.ordered.objects_numbered at in
      elim then [
        | inl made ↦ (
            let within = numbered_within before.next changes.made fits.numbered object made in
            (omega (arith, first, within.0), within.1))
        | inr kept ↦ elim kept [
          | inl valued ↦ (
              let live = All-contains
              (λ (o : Oid × Value). IsLive before.objects o.0) changes.values object fits.values_live valued in
              let within = old live.0 live.1 in
              (within.0, omega (arith, within.1)))
          | inr stays ↦ (
              let within = old object.1 stays.0 in
              (within.0, omega (arith, within.1)))
        ]
      ]

  -- the size of its value
  sized_then : (object : Oid × Value) → ObjectsThen before.objects changes object → IsSized object.1
  sized_then object then = elim then [
    | inl made ↦ All-contains (λ (o : Oid × Value). IsSized o.1) changes.made object fits.made_sized made
    | inr kept ↦ elim kept [
      | inl valued ↦ All-contains (λ (o : Oid × Value). IsSized o.1) changes.values object fits.values_sized valued
      | inr stays ↦ All-contains (λ (o : Oid × Value). IsSized o.1) before.objects object formed.objects_sized stays.0
    ]
  ]

  -- a name then has its form, and its object is live then
  name_then : (entry : List ℕ × Oid) → NamesThen before.names changes entry
      → IsName entry.0 × IsLiveThen before.objects changes entry.1
  name_then entry then = elim then [
    | inl named ↦ (
        let fit = All-contains
        (λ (e : List ℕ × Oid). IsName e.0 × IsAtHand before changes e.1) changes.named entry fits.named named in
        (fit.0, hand_live before changes entry.1 fit.1))
    | inr kept ↦ (
      All-contains (λ (e : List ℕ × Oid). IsName e.0) before.names entry formed.names_formed kept.0,
      live_then before.objects changes entry.1
          (All-contains (λ (e : List ℕ × Oid). IsLive before.objects e.1) before.names entry formed.names_live kept.0),
    )
  ]

  module _ (after : OemGraph) (leaves : IsGraphAfter before changes after) where
    -- an edge then has a complex parent then, and its child is live then
    pub ends_then : (edge : Edge) → Contains leaves.between edge
        → IsComplexThen before.objects changes edge.parent × IsLiveThen before.objects changes edge.child
    ends_then edge at = elim ((leaves.linked.exact edge).0 at) [
      | inl added ↦ (
          let fit = All-contains
          (λ (e : Edge). IsComplexThen before.objects changes e.parent
          × IsAtHand before changes e.child) changes.added edge fits.added added in
          (fit.0, hand_live before changes edge.child fit.1))
      | inr kept ↦ (
        parent_then edge kept.0,
        live_then before.objects changes edge.child
            (All-contains (IsLinked before.objects) before.edges edge formed.edges_linked kept.0).child,
      )
    ]

    abbrev Reached : Oid → Type 0
    Reached = IsReachedThen before.names changes leaves.between

    -- what is live then and reached stays
    live_after : (oid : Oid) → IsLiveThen before.objects changes oid → Reached oid → IsLive after.objects oid
    live_after oid live reached = (live.0, (leaves.objects (oid, live.0)).1 (live.1, reached))

    -- a walk from a reached object is one along edges that stay
    walk_after : (word : List Label) (x y : Oid) → Reached x → Walk leaves.between x word y → Walk after.edges x word y
    walk_after [] x y reached same = same
    walk_after (label ∷ word) x y reached walk = (
      walk.0,
      (leaves.edges (edge_of x label walk.0)).1 (walk.1, reached),
      walk_after word walk.0 y (reached_push before.names changes leaves.between x label walk.0 walk.1 reached) walk.2,
    )

    -- so what is reached then is reached after
    pub reached_after : (oid : Oid) → Reached oid → IsReached after.names after.edges oid
    reached_after oid reached = record {
      name = reached.name;
      start = reached.start;
      word = reached.word;
      named = (leaves.names (reached.name, reached.start)).1 reached.named;
      walked = walk_after reached.word reached.start oid
          (reached_start before.names changes leaves.between reached.name reached.start reached.named) reached.walked;
    }

    linked_after : (edge : Edge) → Contains after.edges edge → IsLinked after.objects edge
    linked_after edge at =
        let left = (leaves.edges edge).0 at in
        let ends = ends_then edge left.0 in
        record {
          parent = (leaves.objects (edge.parent, Complex)).1 (ends.0, left.1);
          child = live_after edge.child ends.1
              (reached_push before.names changes leaves.between edge.parent edge.label edge.child left.0 left.1);
        }

    ordered_after : IsOrdered after
    ordered_after = record {
      names_ascend = leaves.names_ascend;
      objects_ascend = leaves.objects_ascend;
      objects_numbered = All-from_members (λ object. (1 ≤ object.0.0) × (object.0.0 < after.next)) after.objects
          (λ object at.
          let within = number_then object ((leaves.objects object).0 at).0 in
          (within.0, omega (arith, within.1, leaves.next)));
      edges_ascend = leaves.edges_ascend;
      next_numbered = (
        omega (arith, leaves.next, formed.ordered.next_numbered.0),
        omega
            (arith, leaves.next, fits.room),
      );
    }

    pub rooted_after : IsRooted after
    rooted_after = record {
      well_formed = record {
        ordered = ordered_after;
        names_formed = All-from_members (λ entry. IsName entry.0) after.names
            (λ entry at. (name_then entry ((leaves.names entry).0 at)).0);
        names_live = All-from_members (λ entry. IsLive after.objects entry.1) after.names
            (λ entry at.
            let then = (leaves.names entry).0 at in
            live_after entry.1 (name_then entry then).1
            (reached_start before.names changes leaves.between entry.0 entry.1 then));
        objects_sized = All-from_members (λ object. IsSized object.1) after.objects
            (λ object at. sized_then object ((leaves.objects object).0 at).0);
        edges_linked = All-from_members (IsLinked after.objects) after.edges linked_after;
      };
      reached = All-from_members (λ object. IsReached after.names after.edges object.0) after.objects
          (λ object at. reached_after object.0 ((leaves.objects object).0 at).1);
    }
