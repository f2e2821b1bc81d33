-- The values of objects, one object at a time.
use Rattle.std.proofs.Common.{◌≡◌, ◌↔◌, List, Contains, Some, Bool, IsTrue, subst}
use Rattle.lore_base.specs.TargetSets.{ListsInOrder}
use Rattle.lorel_bound.specs.Conditions.{at}
use Rattle.lorel_eval.specs.Types.{Oid, Value}
use Rattle.lorel_eval.specs.inside.Labelled.{LabelledPath}
use Rattle.lorel_eval.specs.inside.Subjects.{SlotsOver, ReachedIn, GivesIn}
use Rattle.lorel_eval.specs.inside.Sides.{HasSuch}

-- an object has one value, so that tells whether it has one that passes
pub own_tells : (objects : List (Oid × Value)) (Passes : Value → Type 0) (oid : Oid) (own : Value) (answer : Bool) → Contains objects (oid, own)
    → ((value : Value) → Contains objects (oid, value) → Some own ≡ Some value) → IsTrue answer ↔ Passes own → IsTrue answer ↔ HasSuch objects Passes oid
own_tells objects Passes oid own answer has only tells = (
  λ is. (own, has, tells.0 is),
  λ some.
      let there = only some.0 some.1 in
      let same : some.0 ≡ own = cc in
      tells.1 (subst Passes same some.2),
)

-- the objects that a path reaches give the values that it gives
pub objects_give : (over : SlotsOver) (objects : List Oid) (path : LabelledPath) (oids : List Oid) (value : Value) → ListsInOrder (ReachedIn over objects path) oids
    → ((oid : Oid) × Contains oids oid × Contains over.objects (oid, value)) ↔ GivesIn over objects (at path) value
objects_give over objects path oids value lists = (
  λ h. (h.0, (lists.exact h.0).0 h.1, h.2),
  λ h. (h.0, (lists.exact h.0).1 h.1, h.2),
)
