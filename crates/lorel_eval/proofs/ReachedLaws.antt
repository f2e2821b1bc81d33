-- Objects that are listed in order, in place of what is said of them.
use Rattle.std.proofs.Common.{◌≡◌, ◌↔◌, List, Contains, Bool, IsTrue, Result, Ok, Err, IfOk, subst, sym}
use Rattle.lore_base.specs.TargetSets.{ListsInOrder}
use Rattle.lorel_eval.specs.Types.{Oid}

-- some object of the list makes something so
pub some_listed : {E : Type 0} (Reached Makes : Oid → Type 0) (oids found : List Oid) (result : Result Bool E) → ListsInOrder Reached oids → found ≡ oids
    → IfOk result (λ answer. IsTrue answer ↔ ((oid : Oid) × Contains found oid × Makes oid)) → IfOk result (λ answer. IsTrue answer ↔ ((oid : Oid) × Reached oid × Makes oid))
some_listed Reached Makes oids found (Err error) lists is tells = tt
some_listed Reached Makes oids found (Ok answer) lists is tells = (
  λ yes. let some = tells.0 yes in (some.0, (lists.exact some.0).0 (subst (λ (l : List Oid). Contains l some.0) is some.1), some.2),
  λ some. tells.1 (some.0, subst (λ (l : List Oid). Contains l some.0) (sym is) ((lists.exact some.0).1 some.1), some.2),
)

-- every object of the list does
pub every_listed : {E : Type 0} (Reached Makes : Oid → Type 0) (oids found : List Oid) (result : Result Bool E) → ListsInOrder Reached oids → found ≡ oids
    → IfOk result (λ answer. IsTrue answer ↔ ((oid : Oid) → Contains found oid → Makes oid)) → IfOk result (λ answer. IsTrue answer ↔ ((oid : Oid) → Reached oid → Makes oid))
every_listed Reached Makes oids found (Err error) lists is tells = tt
every_listed Reached Makes oids found (Ok answer) lists is tells = (
  λ yes oid reached. tells.0 yes oid (subst (λ (l : List Oid). Contains l oid) (sym is) ((lists.exact oid).1 reached)),
  λ every. tells.1 (λ oid at. every oid ((lists.exact oid).0 (subst (λ (l : List Oid). Contains l oid) is at))),
)

-- some object of the one list stands in the other
pub both_listed : (Reached Other : Oid → Type 0) (oids others found met : List Oid) (answer : Bool) → ListsInOrder Reached oids → ListsInOrder Other others → found ≡ oids → met ≡ others
    → IsTrue answer ↔ ((oid : Oid) × Contains found oid × Contains met oid) → IsTrue answer ↔ ((oid : Oid) × Reached oid × Other oid)
both_listed Reached Other oids others found met answer lists lists_too is is_too tells = (
  λ yes.
      let some = tells.0 yes in
      let at = subst (λ (l : List Oid). Contains l some.0) is some.1 in
      let at_too = subst (λ (l : List Oid). Contains l some.0) is_too some.2 in
      (some.0, (lists.exact some.0).0 at, (lists_too.exact some.0).0 at_too),
  λ some.
      let at = subst (λ (l : List Oid). Contains l some.0) (sym is) ((lists.exact some.0).1 some.1) in
      let at_too = subst (λ (l : List Oid). Contains l some.0) (sym is_too) ((lists_too.exact some.0).1 some.2) in
      tells.1 (some.0, at, at_too),
)
