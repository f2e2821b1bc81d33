-- Ascending lists: no item stands in one twice, and one exists for the members of any list that can be put in order.
use Rattle.std.proofs.Common.{◌≡◌, ◌+◌, ◌≤◌, ◌⊎◌, inl, inr, List, [], ◌∷◌, length, get_or, refl, sym, ap}
use Rattle.std.proofs.Common.{subst, ◌∙◌, arith, Less, Equal, Greater}
use Rattle.std.specs.declared.cmp.Ordering.{Ordering}
use Rattle.std.specs.Cmp.{IsTotalOrder}
use Rattle.std.specs.Ordering.{ordering_reverse}
use Rattle.std.specs.List.{AllPairs, Contains}
use Rattle.std.proofs.lemmas.List.Elements.{All-nil, All-cons, All-contains_itself, All-weaker, Contains-get_or}
use Rattle.std.proofs.lemmas.List.Kept.{AllPairs-cons}
use Rattle.lore_lists.proofs.ListLaws.{AllPairs-head, AllPairs-tail}
use Rattle.lore_lists.proofs.MemberLaws.{Contains-none, Contains-tail, Contains-head, Contains-cases, Contains-same}
use Rattle.list_laws.proofs.PairLaws.{AllPairs-nil}

-- of two items one is before the other, or they are one
abbrev pub IsEither : {X : Type 0} → (X → X → Type 0) → X → X → Type 0
IsEither R a b = R a b ⊎ ((a ≡ b) ⊎ R b a)

-- an order in which that is so of any two
pub record IsOrder {X : Type 0} (R : X → X → Type 0) : Type 0 where
  pub apart : (a : X) → R a a → ⊥
  pub trans : (a b c : X) → R a b → R b c → R a c
  pub either : (a b : X) → IsEither R a b

-- pairs of members in an order are so in another one that follows for members
pub AllPairs-within : {X : Type 0} (R S : X → X → Type 0) (xs : List X)
    → ((a b : X) → Contains xs a → Contains xs b → R a b → S a b) → AllPairs R xs → AllPairs S xs
AllPairs-within R S xs weaker pairs i j d lt len =
    weaker (get_or xs i d) (get_or xs j d) (Contains-get_or xs i d (omega (arith, lt, len)))
    (Contains-get_or xs j d len) (pairs i j d lt len)

-- two members of which neither is before the other are one
pub AllPairs-once : {X : Type 0} (R : X → X → Type 0) (xs : List X) → AllPairs R xs → (a b : X) → Contains xs a
    → Contains xs b
    → (R a b → ⊥) → (R b a → ⊥) → a ≡ b
AllPairs-once R [] pairs a b at_a at_b below above = absurd (Contains-none a at_a)
AllPairs-once R (x ∷ xs) pairs a b at_a at_b below above = elim (Contains-cases x xs a at_a) [
  | inl first_a ↦ elim (Contains-cases x xs b at_b) [
    | inl first_b ↦ sym first_a ∙ first_b
    | inr later_b ↦ absurd (below (subst (λ z. R z b) first_a (AllPairs-head R x xs pairs b later_b)))
  ]
  | inr later_a ↦ elim (Contains-cases x xs b at_b) [
    | inl first_b ↦ absurd (above (subst (λ z. R z a) first_b (AllPairs-head R x xs pairs a later_a)))
    | inr later_b ↦ AllPairs-once R xs (AllPairs-tail R x xs pairs) a b later_a later_b below above
  ]
]

-- one item more, at its place
pub record IsInserted {X : Type 0} (R : X → X → Type 0) (old : List X) (item : X) (new : List X) : Type 0 where
  pub ascend : AllPairs R new
  pub kept : (z : X) → Contains old z → Contains new z
  pub here : Contains new item
  pub only : (z : X) → Contains new z → Contains old z ⊎ (item ≡ z)
  pub few : length new ≤ length old + 1

-- the members of a list in ascending order
pub record IsSetOf {X : Type 0} (R : X → X → Type 0) (old : List X) (new : List X) : Type 0 where
  pub ascend : AllPairs R new
  pub kept : (z : X) → Contains old z → Contains new z
  pub only : (z : X) → Contains new z → Contains old z
  pub few : length new ≤ length old

module _ {X : Type 0} (R : X → X → Type 0) (trans : (a b c : X) → R a b → R b c → R a c) where
  inserted_first : (item y : X) (ys : List X) → AllPairs R (y ∷ ys) → R item y
      → IsInserted R (y ∷ ys) item (item ∷ y ∷ ys)
  inserted_first item y ys ascend before = record {
    ascend = AllPairs-cons R item (y ∷ ys)
        (All-cons (R item) y ys before
        (All-weaker (Contains ys) (R item)
        (λ z there. trans item y z before (AllPairs-head R y ys ascend z there)) ys
        (All-contains_itself ys))) ascend;
    kept = λ z h. Contains-tail item (y ∷ ys) z h;
    here = Contains-head item (y ∷ ys);
    only = λ z h. elim (Contains-cases item (y ∷ ys) z h) [ inl same ↦ inr same | inr later ↦ inl later ];
    few = omega arith;
  }

  inserted_same : (item y : X) (ys : List X) → AllPairs R (y ∷ ys) → item ≡ y → IsInserted R (y ∷ ys) item (y ∷ ys)
  inserted_same item y ys ascend same = record {
    ascend = ascend;
    kept = λ z h. h;
    here = subst (Contains (y ∷ ys)) (sym same) (Contains-head y ys);
    only = λ z h. inl h;
    few = omega arith;
  }

  inserted_later : (item y : X) (ys new : List X) → AllPairs R (y ∷ ys) → R y item → IsInserted R ys item new
      → IsInserted R (y ∷ ys) item (y ∷ new)
  inserted_later item y ys new ascend before rest = record {
    ascend = AllPairs-cons R y new
        (All-weaker (Contains new) (R y)
        (λ z h. elim (rest.only z h) [
          | inl old ↦ AllPairs-head R y ys ascend z old
          | inr same ↦ subst (R y) same before
        ])
        new (All-contains_itself new))
        rest.ascend;
    kept = λ z h. elim (Contains-cases y ys z h) [
      | inl same ↦ Contains-same (y ∷ new) y z same (Contains-head y new)
      | inr later ↦ Contains-tail y new z (rest.kept z later)
    ];
    here = Contains-tail y new item rest.here;
    only = λ z h. elim (Contains-cases y new z h) [
      | inl same ↦ inl (Contains-same (y ∷ ys) y z same (Contains-head y ys))
      | inr later ↦ elim (rest.only z later) [ inl old ↦ inl (Contains-tail y ys z old) | inr same ↦ inr same ]
    ];
    few = omega (arith, rest.few);
  }

  -- an item is put in order among those that it can be put in order with
  pub some_inserted_among : (item : X) (old : List X) → AllPairs R old → ((y : X) → Contains old y → IsEither R item y)
      → (new : List X) × IsInserted R old item new
  some_inserted_among item [] ascend either = (
    item ∷ [],
    record {
      ascend = AllPairs-cons R item [] (All-nil (R item)) ascend;
      kept = λ z h. absurd (Contains-none z h);
      here = Contains-head item [];
      only = λ z h. elim (Contains-cases item [] z h) [ inl same ↦ inr same | inr none ↦ inl none ];
      few = omega arith;
    },
  )
  some_inserted_among item (y ∷ ys) ascend either =
      elim (either y (Contains-head y ys)) [
        | inl before ↦ (item ∷ y ∷ ys, inserted_first item y ys ascend before)
        | inr not_before ↦ elim not_before [
          | inl same ↦ (y ∷ ys, inserted_same item y ys ascend same)
          | inr after ↦ (
              let rest = some_inserted_among item ys (AllPairs-tail R y ys ascend)
              (λ z later. either z (Contains-tail y ys z later)) in
              (y ∷ rest.0, inserted_later item y ys rest.0 ascend after rest.1))
        ]
      ]

  -- members of which any two can be put in order
  pub some_ordered_among : (old : List X) → ((a b : X) → Contains old a → Contains old b → IsEither R a b)
      → (new : List X) × IsSetOf R old new
  some_ordered_among [] either =
      ([], record { ascend = AllPairs-nil R; kept = λ z h. h; only = λ z h. h; few = omega arith })
  some_ordered_among (x ∷ xs) either =
      let rest = some_ordered_among xs
      (λ a b at_a at_b. either a b (Contains-tail x xs a at_a) (Contains-tail x xs b at_b)) in
      let whole = some_inserted_among x rest.0 rest.1.ascend
      (λ y at. either x y (Contains-head x xs) (Contains-tail x xs y (rest.1.only y at))) in (
        whole.0,
        record {
          ascend = whole.1.ascend;
          kept = λ z h. elim (Contains-cases x xs z h) [
            | inl same ↦ Contains-same whole.0 x z same whole.1.here
            | inr later ↦ whole.1.kept z (rest.1.kept z later)
          ];
          only = λ z h. elim (whole.1.only z h) [
            | inl old ↦ Contains-tail x xs z (rest.1.only z old)
            | inr same ↦ Contains-same (x ∷ xs) x z same (Contains-head x xs)
          ];
          few = omega (arith, whole.1.few, rest.1.few);
        },
      )

module _ {X : Type 0} (R : X → X → Type 0) (order : IsOrder R) where
  pub some_inserted : (item : X) (old : List X) → AllPairs R old → (new : List X) × IsInserted R old item new
  some_inserted item old ascend = some_inserted_among R order.trans item old ascend (λ y at. order.either item y)

  pub some_ordered : (old : List X) → (new : List X) × IsSetOf R old new
  some_ordered old = some_ordered_among R order.trans old (λ a b at_a at_b. order.either a b)

-- ---- items by a total order that tells them apart
not_less : (o : Ordering) → o ≡ ordering_reverse o → o ≡ Less → ⊥
not_less Less mirrored h = cc
not_less Equal mirrored h = cc
not_less Greater mirrored h = cc

-- what compares itself as less doesn't
pub never_less : {X : Type 0} (cmp : X → X → Ordering) → IsTotalOrder cmp → (a : X) → cmp a a ≡ Less → ⊥
never_less cmp total a h = not_less (cmp a a) (total.antisymm a a) h

pub total_ordered : {X : Type 0} (cmp : X → X → Ordering) → IsTotalOrder cmp → ((a b : X) → cmp a b ≡ Equal → a ≡ b)
    → IsOrder (λ a b. cmp a b ≡ Less)
total_ordered {X} cmp total exact = record {
  apart = never_less cmp total;
  trans = λ a b c h k. total.trans a b c h k;
  either = λ a b. elim (cmp a b) as (λ o. cmp a b ≡ o → (cmp a b ≡ Less) ⊎ ((a ≡ b) ⊎ (cmp b a ≡ Less))) [
    | Less ↦ λ is. inl is
    | Equal ↦ λ is. inr (inl (exact a b is))
    | Greater ↦ λ is. inr (inr (total.antisymm b a ∙ ap ordering_reverse is))
  ] refl;
}
