-- Valuations: those that agree where it matters, and those that change at one place.
use Rattle.std.proofs.Common.{◌≡◌, ◌≢◌, ℕ, ◌⊎◌, inl, inr, cond, List, [], Option, Some, None, sym, ◌∙◌}
use Rattle.std.specs.List.{Contains}
use Rattle.std.proofs.lemmas.Bool.{cond-true, cond-false, false_from_ne_true}
use Rattle.lore_base.specs.Databases.{Database}
use Rattle.lore_base.specs.Paths.{PathTree}
use Rattle.lore_base.specs.Comparisons.{Compares}
use Rattle.lorel_bind.specs.Types.{Oid}
use Rattle.lorel_ranges.specs.Places.{Root, named, ranged, quantified, Place}
use Rattle.lorel_bound.specs.Conditions.{CondOf, paths_in}
use Rattle.lorel_ranges.specs.Ranges.{PlacedRange, IsFixed}
use Rattle.lorel_bind.specs.Answers.{IsObjectOf, IsReachedBy, HasValue, HoldsAt}
use Rattle.lorel_ranges.specs.inside.Equality.{same_place}
use Rattle.lorel_ranges.proofs.PlaceLaws.{same_place-Decides}
use Rattle.bind_laws.proofs.ConditionLaws.{ReachAlike, holds_like, like_itself}

-- ---- valuations that agree where it matters
-- two valuations give a place the same object, or it is that of a quantifier
abbrev pub AgreeAt : (Place → Oid) → (Place → Oid) → Place → Type 0
AgreeAt at other place = ((depth : ℕ) × (place.root ≡ quantified depth)) ⊎ (at place ≡ other place)

AgreeAt-sym : (at other : Place → Oid) (place : Place) → AgreeAt at other place → AgreeAt other at place
AgreeAt-sym at other place (inl at_quantifier) = inl at_quantifier
AgreeAt-sym at other place (inr same) = inr (sym same)

IsObjectOf-same : (valued other : Oid) (objects : List Oid) (root : Root) (oid : Oid) → ((depth : ℕ) × (root ≡ quantified depth)) ⊎ (valued ≡ other)
    → IsObjectOf valued objects root oid → IsObjectOf other objects root oid
IsObjectOf-same valued other objects (quantified depth) oid same h = h
IsObjectOf-same valued other objects (named name) oid (inl h) is = let same : named name ≡ quantified h.0 = h.1 in cc
IsObjectOf-same valued other objects (named name) oid (inr same) is = sym same ∙ is
IsObjectOf-same valued other objects (ranged variable) oid (inl h) is = let same : ranged variable ≡ quantified h.0 = h.1 in cc
IsObjectOf-same valued other objects (ranged variable) oid (inr same) is = sym same ∙ is

IsReachedBy-same : (db : Database) (plain : List PlacedRange) (at other : Place → Oid) (objects : List Oid) (path : Place) (oid : Oid)
    → ((fixed : Place) (rest : List PathTree) → IsFixed plain path fixed rest → AgreeAt at other fixed)
    → IsReachedBy db plain at objects path oid → IsReachedBy db plain other objects path oid
IsReachedBy-same db plain at other objects path oid agree h = record {
  fixed = h.fixed;
  rest = h.rest;
  is_fixed = h.is_fixed;
  start = h.start;
  begins = IsObjectOf-same (at h.fixed) (other h.fixed) objects h.fixed.root h.start (agree h.fixed h.rest h.is_fixed) h.begins;
  leads = h.leads;
}

-- a condition holds of both where they agree at each place that a path of it is fixed at
pub HoldsAt-same : (db : Database) (plain : List PlacedRange) (at other : Place → Oid) (condition : Option (CondOf Place))
    → ((path fixed : Place) (rest : List PathTree) → Contains (paths_in condition) path → IsFixed plain path fixed rest → AgreeAt at other fixed)
    → HoldsAt db plain at condition → HoldsAt db plain other condition
HoldsAt-same db plain at other None agree holds = holds
HoldsAt-same db plain at other (Some condition) agree holds =
    (holds_like (IsReachedBy db plain at) (IsReachedBy db plain other) (HasValue db) Compares condition condition
    (like_itself (ReachAlike (IsReachedBy db plain at) (IsReachedBy db plain other)) condition (λ path there objects oid. (
      IsReachedBy-same db plain at other objects path oid (λ fixed rest is. agree path fixed rest there is),
      IsReachedBy-same db plain other at objects path oid (λ fixed rest is. AgreeAt-sym at other fixed (agree path fixed rest there is)),
    ))) []).0 holds

-- ---- a valuation that changes at one place
pub moved : (Place → Oid) → Place → Oid → Place → Oid
moved at gone oid place = cond (same_place place gone) oid (at place)

-- it has the new object there
pub moved_there : (at : Place → Oid) (gone : Place) (oid : Oid) (place : Place) → place ≡ gone → moved at gone oid place ≡ oid
unfolding moved
moved_there at gone oid place same = cond-true (same_place place gone) oid (at place) ((same_place-Decides place gone).1 same)

pub moved_elsewhere : (at : Place → Oid) (gone : Place) (oid : Oid) (place : Place) → place ≢ gone → at place ≡ moved at gone oid place
unfolding moved
moved_elsewhere at gone oid place apart =
    sym (cond-false (same_place place gone) oid (at place)
    (false_from_ne_true (same_place place gone) (λ same. apart ((same_place-Decides place gone).0 same))))
