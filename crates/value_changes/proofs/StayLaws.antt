-- What stays where edges are lost, edges are fresh and values are given: edges into objects that are not touched, and
-- the values of objects that an edge enters before and then.
use Rattle.std.proofs.Common.{◌⊎◌, ◌↔◌, inl, inr, List, Contains, refl, subst}
use Rattle.lore_base.specs.Walks.{edge_of}
use Rattle.index_traits.specs.Entries.{IsEntered}
use Rattle.lore_base.proofs.ToldLaws.{told_member, told_oid, told_edge}
use Rattle.value_changes.specs.Types.{Oid, Label, Edge, Value}
use Rattle.value_changes.specs.declared.pairs.Pair.{Pair}
use Rattle.value_changes.specs.EntryChanges.{State, IsSettled, AreGraphChanges}
use Rattle.value_changes.specs.Reads.{IsValued}
use Rattle.value_changes.specs.inside.Sets.{AreSetOf}
use Rattle.value_changes.specs.inside.Touched.{oid_cmp, IsOldGiven}
use Rattle.value_changes.specs.inside.Pairs.{pair_cmp, IsAtomic, IsAtomicPairOf, IsThere}
use Rattle.value_changes.proofs.PairLaws.{entered, told_pair}
use Rattle.value_changes.proofs.TouchedLaws.{IsTouched, touched_of, touched-listed}

-- what is read of changes: the objects given values, as far as they were live and have an atomic value; the edges that
-- entered touched objects with an atomic value; and the pairs of before and of then whose objects have one
pub record Reading : Type 0 where
  pub old : State
  pub new : State
  pub lost : List Edge
  pub fresh : List Edge
  pub given : List (Oid × Value)
  pub oids : List Oid
  pub entering : List Edge
  pub before : List Pair
  pub then : List Pair
  pub settled : IsSettled old
  pub settled_then : IsSettled new
  pub changes : AreGraphChanges old new lost fresh given
  pub gives : AreSetOf oid_cmp (IsOldGiven old.objects new.objects given) oids
  pub enters : (edge : Edge) → IsValued old.objects new.objects edge.child
      → Contains entering edge ↔ (Contains old.edges edge × Contains (touched_of lost fresh oids) edge.child)
  pub pairs : AreSetOf pair_cmp (IsAtomicPairOf old.objects (Contains entering)) before
  pub pairs_then : AreSetOf pair_cmp (IsAtomicPairOf new.objects (IsThere entering lost fresh)) then

-- the object has an atomic value before or then
abbrev pub Valued : Reading → Oid → Type 0
Valued read oid = IsValued read.old.objects read.new.objects oid

-- the objects given values and the children of lost and of fresh edges
abbrev pub touched : Reading → List Oid
touched read = touched_of read.lost read.fresh read.oids

pub touches : (read : Reading) (oid : Oid) → Contains (touched read) oid ↔ IsTouched read.lost read.fresh read.oids oid
touches read oid = touched-listed read.lost read.fresh read.oids oid

module _ (read : Reading) where
  edge-stays : (edge : Edge) → Contains read.old.edges edge → (Contains read.lost edge → ⊥) → Contains read.new.edges edge
  edge-stays edge at not_lost = elim (told_member told_edge read.new.edges edge) [
    | inl there ↦ there
    | inr none ↦ absurd (not_lost ((read.changes.lost_exact edge).1 (at, none)))
  ]

  edge-was : (edge : Edge) → Contains read.new.edges edge → (Contains read.fresh edge → ⊥) → Contains read.old.edges edge
  edge-was edge at not_fresh = elim (told_member told_edge read.old.edges edge) [
    | inl there ↦ there
    | inr none ↦ absurd (not_fresh ((read.changes.fresh_exact edge).1 (at, none)))
  ]

  -- an object that isn't touched is entered by the same edges
  pub entered-stays : (label : Label) (oid : Oid) → (Contains (touched read) oid → ⊥) → IsEntered read.old.edges label oid
      → IsEntered read.new.edges label oid
  entered-stays label oid untouched h =
      let edge : Edge = edge_of h.0 label oid in
      (h.0, edge-stays edge h.1 (λ gone. untouched ((touches read oid).1 (inr (inl (edge, gone, refl))))))

  pub entered-was : (label : Label) (oid : Oid) → (Contains (touched read) oid → ⊥) → IsEntered read.new.edges label oid
      → IsEntered read.old.edges label oid
  entered-was label oid untouched h =
      let edge : Edge = edge_of h.0 label oid in
      (h.0, edge-was edge h.1 (λ new_one. untouched ((touches read oid).1 (inr (inr (edge, new_one, refl))))))

  -- nor is a value given to it
  pub not_given : (oid : Oid) → (Contains (touched read) oid → ⊥) → Contains read.oids oid → ⊥
  not_given oid untouched is_given = untouched ((touches read oid).1 (inl is_given))

  -- the pairs before are those of touched objects that edges enter before and that have an atomic value
  pub before-exact : (pair : Pair)
      → Contains read.before pair
      ↔ ((Contains (touched read) pair.object × IsEntered read.old.edges pair.label pair.object)
      × IsAtomic read.old.objects pair)
  before-exact pair = (
    λ at.
        let passes = (read.pairs.exact pair).0 at in
        let h = (entered (Contains read.entering) pair).0 passes.0 in
        let parts = (read.enters (edge_of h.0 pair.label pair.object) (inl passes.1)).0 h.1 in
        ((parts.1, (h.0, parts.0)), passes.1),
    λ h. (read.pairs.exact pair).1 (
      (entered (Contains read.entering) pair).1
          (h.0.1.0, (read.enters (edge_of h.0.1.0 pair.label pair.object) (inl h.1)).1 (h.0.1.1, h.0.0)),
      h.1,
    ),
  )

  -- and likewise then
  pub then-exact : (pair : Pair)
      → Contains read.then pair
      ↔ ((Contains (touched read) pair.object × IsEntered read.new.edges pair.label pair.object)
      × IsAtomic read.new.objects pair)
  then-exact pair = (
    λ at.
        let passes = (read.pairs_then.exact pair).0 at in
        let h = (entered (IsThere read.entering read.lost read.fresh) pair).0 passes.0 in
        let edge : Edge = edge_of h.0 pair.label pair.object in (
          elim h.1 [
            | inl new_one ↦ (
              (touches read pair.object).1 (inr (inr (edge, new_one, refl))),
              (h.0, ((read.changes.fresh_exact edge).0 new_one).0),
            )
            | inr stays ↦
                let parts = (read.enters edge (inr passes.1)).0 stays.0 in
                (parts.1, (h.0, edge-stays edge parts.0 stays.1))
          ],
          passes.1,
        ),
    λ h.
        let edge : Edge = edge_of h.0.1.0 pair.label pair.object in
        let is_there : IsThere read.entering read.lost read.fresh edge = elim (told_member told_edge read.old.edges edge) [
          | inl there ↦ inr
              ((read.enters edge (inr h.1)).1 (there, h.0.0), λ gone. ((read.changes.lost_exact edge).0 gone).1 h.0.1.1)
          | inr none ↦ inl ((read.changes.fresh_exact edge).1 (h.0.1.1, none))
        ] in
        (read.pairs_then.exact pair).1
        ((entered (IsThere read.entering read.lost read.fresh) pair).1 (h.0.1.0, is_there), h.1),
  )

  -- an object with an atomic value that an edge enters then keeps its value where none is given to it
  pub value-stays : (label : Label) (oid : Oid) (value : Value) → Valued read oid → Contains read.old.objects (oid, value)
      → IsEntered read.new.edges label oid → (Contains read.oids oid → ⊥) → Contains read.new.objects (oid, value)
  value-stays label oid value valued at h none_given =
      elim (read.changes.keep oid value at (read.settled_then.children (edge_of h.0 label oid) h.1)) [
        | inl is_given ↦ absurd (none_given ((read.gives.exact oid).1 (is_given, ((value, at), valued))))
        | inr there ↦ there
      ]

  -- and had it, where an edge entered it before too
  pub value-was : (label : Label) (oid : Oid) (value : Value) → Valued read oid → Contains read.new.objects (oid, value)
      → IsEntered read.old.edges label oid → IsEntered read.new.edges label oid → (Contains read.oids oid → ⊥)
      → Contains read.old.objects (oid, value)
  value-was label oid value valued at was h none_given =
      let live = read.settled.children (edge_of was.0 label oid) was.1 in
      let there = value-stays label oid live.0 valued live.1 h none_given in
      let same = read.settled_then.one_value oid live.0 value there at in
      subst (λ (v : Value). Contains read.old.objects (oid, v)) same live.1

  -- a pair moves, or its object is given no value and it is one of the others
  pub told_moves : (others : List Pair) (pair : Pair)
      → (Contains read.oids pair.object ⊎ (Contains others pair → ⊥))
      ⊎ ((Contains read.oids pair.object → ⊥) × Contains others pair)
  told_moves others pair = elim (told_member told_oid read.oids pair.object) [
    | inl is_given ↦ inl (inl is_given)
    | inr none_given ↦ elim (told_member told_pair others pair) [
      | inl there ↦ inr (none_given, there)
      | inr away ↦ inl (inr away)
    ]
  ]
