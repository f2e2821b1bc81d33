-- Conditions: two that are alike hold alike, and whether one holds can be told where what its paths reach is listed.
use Rattle.std.proofs.Common.{◌≡◌, inl, inr, ◌↔◌, List, [], ◌∷◌, ◌++◌, refl, sym, subst, ◌∙◌}
use Rattle.std.specs.List.{Contains}
use Rattle.std.proofs.lemmas.List.Elements.{Contains-append_left, Contains-append_right}
use Rattle.lore_base.specs.Comparisons.{Compares}
use Rattle.lore_base.proofs.MemberLaws.{Contains-tail, Contains-head}
use Rattle.lorel_bound.specs.Types.{Oid, Value, Op}
use Rattle.lorel_bound.specs.Conditions.{OperandOf, constant, at, CondOf, or, and, not, exists, for_all, compare, same, CondsOf, no_cond, cond, operand_paths, paths_of, paths_of_all}
use Rattle.lorel_bound.specs.Holding.{Gives, Holds, SomeHolds, AllHold}
use Rattle.lorel_bind.specs.Bindings.{CorrespondOperands, Correspond, CorrespondEach}
use Rattle.lore_base.proofs.ToldLaws.{IsTold, told_same, told_not, told_both, told_either, told_oid}
use Rattle.lorel_bound.proofs.ListedLaws.{IsListed, listed_one, listed_same, listed_over, told_some, told_all, told_listed}
use Rattle.lorel_bound.proofs.ComparedLaws.{told_compares}

-- ---- conditions whose paths reach alike
-- two paths reach the same objects, whichever objects the quantifiers have
abbrev pub ReachAlike : {P Q : Type 0} → (List Oid → P → Oid → Type 0) → (List Oid → Q → Oid → Type 0) → P → Q → Type 0
ReachAlike Reached Meets p q = (objects : List Oid) (oid : Oid) → Reached objects p oid ↔ Meets objects q oid

module _ {P Q : Type 0} (Reached : List Oid → P → Oid → Type 0) (Meets : List Oid → Q → Oid → Type 0)
    (Has : Oid → Value → Type 0) (Compare : Value → Op → Value → Type 0) where
  gives_like : (objects : List Oid) (a : OperandOf P) (b : OperandOf Q) → CorrespondOperands (ReachAlike Reached Meets) a b
      → (value : Value) → Gives Reached Has Compare objects a value ↔ Gives Meets Has Compare objects b value
  gives_like objects (constant a) (constant b) like value = (λ h. h ∙ like, λ h. h ∙ sym like)
  gives_like objects (constant a) (at b) like value = absurd like
  gives_like objects (at a) (constant b) like value = absurd like
  gives_like objects (at a) (at b) like value = (
    λ h. (h.0, (like objects h.0).0 h.1, h.2),
    λ h. (h.0, (like objects h.0).1 h.1, h.2),
  )

  compare_like : (objects : List Oid) (a : OperandOf P) (op : Op) (right : OperandOf P) (b : OperandOf Q) (other : Op) (last : OperandOf Q)
      → CorrespondOperands (ReachAlike Reached Meets) a b → op ≡ other → CorrespondOperands (ReachAlike Reached Meets) right last
      → Holds Reached Has Compare objects (compare a op right) ↔ Holds Meets Has Compare objects (compare b other last)
  compare_like objects a op right b other last first is second = (
    λ h. (
      h.0,
      h.1,
      (gives_like objects a b first h.0).0 h.2,
      (gives_like objects right last second h.1).0 h.3,
      subst (λ o. Compare h.0 o h.1) is h.4,
    ),
    λ h. (
      h.0,
      h.1,
      (gives_like objects a b first h.0).1 h.2,
      (gives_like objects right last second h.1).1 h.3,
      subst (λ o. Compare h.0 o h.1) (sym is) h.4,
    ),
  )

  mutual
    pub holds_like : (a : CondOf P) (b : CondOf Q) → Correspond (ReachAlike Reached Meets) a b
        → (objects : List Oid) → Holds Reached Has Compare objects a ↔ Holds Meets Has Compare objects b
    holds_like (or a) (or b) like objects = some_like a b like objects
    holds_like (and a) (and b) like objects = all_like a b like objects
    holds_like (not a) (not b) like objects =
        let body = holds_like a b like objects in
        (λ h g. h (body.1 g), λ h g. h (body.0 g))
    holds_like (exists a body) (exists b other) like objects = (
      λ h. (h.0, (like.0 objects h.0).0 h.1, (holds_like body other like.1 (objects ++ h.0 ∷ [])).0 h.2),
      λ h. (h.0, (like.0 objects h.0).1 h.1, (holds_like body other like.1 (objects ++ h.0 ∷ [])).1 h.2),
    )
    holds_like (for_all a body) (for_all b other) like objects = (
      λ h oid reached. (holds_like body other like.1 (objects ++ oid ∷ [])).0 (h oid ((like.0 objects oid).1 reached)),
      λ h oid reached. (holds_like body other like.1 (objects ++ oid ∷ [])).1 (h oid ((like.0 objects oid).0 reached)),
    )
    holds_like (compare a op right) (compare b other last) like objects = compare_like objects a op right b other last like.0 like.1 like.2
    holds_like (same a right) (same b last) like objects = (
      λ h. (h.0, (like.0 objects h.0).0 h.1, (like.1 objects h.0).0 h.2),
      λ h. (h.0, (like.0 objects h.0).1 h.1, (like.1 objects h.0).1 h.2),
    )
    holds_like _ _ like objects = absurd like

    some_like : (a : CondsOf P) (b : CondsOf Q) → CorrespondEach (ReachAlike Reached Meets) a b
        → (objects : List Oid) → SomeHolds Reached Has Compare objects a ↔ SomeHolds Meets Has Compare objects b
    some_like no_cond no_cond like objects = (λ h. h, λ h. h)
    some_like (cond a others) (cond b more) like objects =
        let first = holds_like a b like.0 objects in
        let rest = some_like others more like.1 objects in (
          λ h. elim h [ inl here ↦ inl (first.0 here) | inr later ↦ inr (rest.0 later) ],
          λ h. elim h [ inl here ↦ inl (first.1 here) | inr later ↦ inr (rest.1 later) ],
        )
    some_like _ _ like objects = absurd like

    all_like : (a : CondsOf P) (b : CondsOf Q) → CorrespondEach (ReachAlike Reached Meets) a b
        → (objects : List Oid) → AllHold Reached Has Compare objects a ↔ AllHold Meets Has Compare objects b
    all_like no_cond no_cond like objects = (λ h. h, λ h. h)
    all_like (cond a others) (cond b more) like objects =
        let first = holds_like a b like.0 objects in
        let rest = all_like others more like.1 objects in
        (λ h. (first.0 h.0, rest.0 h.1), λ h. (first.1 h.0, rest.1 h.1))
    all_like _ _ like objects = absurd like

-- a condition is like itself, by what relates each of its paths to itself
module _ {P : Type 0} (R : P → P → Type 0) where
  like_operand : (operand : OperandOf P) → ((path : P) → Contains (operand_paths operand) path → R path path) → CorrespondOperands R operand operand
  like_operand (constant value) each = refl
  like_operand (at path) each = each path (Contains-head path [])

  mutual
    pub like_itself : (condition : CondOf P) → ((path : P) → Contains (paths_of condition) path → R path path) → Correspond R condition condition
    like_itself (or members) each = like_themselves members each
    like_itself (and members) each = like_themselves members each
    like_itself (not body) each = like_itself body each
    like_itself (exists path body) each =
        (each path (Contains-head path (paths_of body)), like_itself body (λ other there. each other (Contains-tail path (paths_of body) other there)))
    like_itself (for_all path body) each =
        (each path (Contains-head path (paths_of body)), like_itself body (λ other there. each other (Contains-tail path (paths_of body) other there)))
    like_itself (compare left op right) each = (
      like_operand left (λ path there. each path (Contains-append_left (operand_paths left) (operand_paths right) path there)),
      refl,
      like_operand right (λ path there. each path (Contains-append_right (operand_paths left) (operand_paths right) path there)),
    )
    like_itself (same left right) each =
        (each left (Contains-head left (right ∷ [])), each right (Contains-tail left (right ∷ []) right (Contains-head right [])))

    like_themselves : (members : CondsOf P) → ((path : P) → Contains (paths_of_all members) path → R path path) → CorrespondEach R members members
    like_themselves no_cond each = tt
    like_themselves (cond first others) each = (
      like_itself first (λ path there. each path (Contains-append_left (paths_of first) (paths_of_all others) path there)),
      like_themselves others (λ path there. each path (Contains-append_right (paths_of first) (paths_of_all others) path there)),
    )

-- ---- whether a condition holds
module _ {P : Type 0} (Reached : List Oid → P → Oid → Type 0) (Has : Oid → Value → Type 0)
    (reached : (objects : List Oid) (path : P) → IsListed (Reached objects path)) (values : (oid : Oid) → IsListed (Has oid)) where
  listed_given : (objects : List Oid) (operand : OperandOf P) → IsListed (Gives Reached Has Compares objects operand)
  listed_given objects (constant own) = listed_same (λ value. own ≡ value) (λ value. value ≡ own) (λ value. (λ h. sym h, λ h. sym h)) (listed_one own)
  listed_given objects (at path) = listed_over (Reached objects path) Has (reached objects path) values

  told_compare : (objects : List Oid) (left : OperandOf P) (op : Op) (right : OperandOf P) → IsTold (Holds Reached Has Compares objects (compare left op right))
  told_compare objects left op right =
      told_same (λ h. (h.0, h.2.0, h.1, h.2.1, h.2.2)) (λ h. (h.0, h.2, (h.1, h.3, h.4)))
      (told_some (Gives Reached Has Compares objects left) (λ a. (b : Value) × Gives Reached Has Compares objects right b × Compares a op b) (listed_given objects left)
      (λ a. told_some (Gives Reached Has Compares objects right) (Compares a op) (listed_given objects right) (told_compares a op)))

  mutual
    pub told_holds : (condition : CondOf P) (objects : List Oid) → IsTold (Holds Reached Has Compares objects condition)
    told_holds (or members) objects = told_some_holds members objects
    told_holds (and members) objects = told_all_hold members objects
    told_holds (not body) objects = told_not (told_holds body objects)
    told_holds (exists path body) objects =
        told_some (Reached objects path) (λ oid. Holds Reached Has Compares (objects ++ oid ∷ []) body) (reached objects path)
        (λ oid. told_holds body (objects ++ oid ∷ []))
    told_holds (for_all path body) objects =
        told_all (Reached objects path) (λ oid. Holds Reached Has Compares (objects ++ oid ∷ []) body) (reached objects path)
        (λ oid. told_holds body (objects ++ oid ∷ []))
    told_holds (compare left op right) objects = told_compare objects left op right
    told_holds (same left right) objects =
        told_some (Reached objects left) (Reached objects right) (reached objects left)
        (told_listed told_oid (Reached objects right) (reached objects right))

    told_some_holds : (members : CondsOf P) (objects : List Oid) → IsTold (SomeHolds Reached Has Compares objects members)
    told_some_holds no_cond objects = inr (λ h. h)
    told_some_holds (cond first others) objects = told_either (told_holds first objects) (told_some_holds others objects)

    told_all_hold : (members : CondsOf P) (objects : List Oid) → IsTold (AllHold Reached Has Compares objects members)
    told_all_hold no_cond objects = inl tt
    told_all_hold (cond first others) objects = told_both (told_holds first objects) (told_all_hold others objects)
