-- Links to the nearest of some items that lie at keys.
use Rattle.std.specs.Prelude.{◌≡◌, ◌≢◌, ◌⊎◌, ◌↔◌, ℕ, Option, Some, None, List, AllPairs, Contains}

module _ {X : Type 0} where
  -- the link leads to the nearest of the items that P holds of: each other one lies beyond it; and there is no link
  -- where P holds of none
  abbrev pub IsNearest : (ℕ → X → Type 0) → (X → Type 0) → (X → X → Type 0) → Option ℕ → Type 0
  IsNearest at P beyond None = (key : ℕ) (item : X) → at key item → ¬ P item
  IsNearest at P beyond (Some link) = (item : X) × at link item × P item
      × ((key : ℕ) (other : X) → at key other → P other → (key ≡ link) ⊎ beyond item other)

  -- the items are those of before and this one, at a key that had none
  pub record IsAdded (before : ℕ → X → Type 0) (key : ℕ) (item : X) (now : ℕ → X → Type 0) : Type 0 where
    pub kept : (k : ℕ) (x : X) → before k x → now k x
    pub new : now key item
    pub only : (k : ℕ) (x : X) → now k x → before k x ⊎ ((k ≡ key) × (x ≡ item))
    pub vacant : (x : X) → ¬ before key x

  -- the items are those of before, but for the one at this key
  pub record IsRemoved (before : ℕ → X → Type 0) (key : ℕ) (now : ℕ → X → Type 0) : Type 0 where
    pub kept : (k : ℕ) (x : X) → before k x → k ≢ key → now k x
    pub only : (k : ℕ) (x : X) → now k x → before k x × (k ≢ key)

  -- at most one item lies at a key
  abbrev pub AreAtKeys : (ℕ → X → Type 0) → Type 0
  AreAtKeys at = (k : ℕ) (x y : X) → at k x → at k y → x ≡ y

  -- each item at a key is linked to the next and the last of its owner's items in the order R, and each owner to its
  -- first
  pub record AreLinked {O : Type 0} (owner : X → O) (R : X → X → Type 0) (at : ℕ → X → Type 0)
      (after before : ℕ → Option ℕ) (first : O → Option ℕ) : Type 0 where
    pub ahead : (key : ℕ) (item : X) → at key item → IsNearest at (λ other. R item other) R (after key)
    pub back : (key : ℕ) (item : X) → at key item
        → IsNearest at (λ other. R other item) (λ a b. R b a) (before key)
    pub heads : (o : O) → IsNearest at (λ item. owner item ≡ o) R (first o)

  -- each item at a key is linked to the next of its owner's items in the order R, and each owner to its first; no item
  -- lies at two keys
  pub record AreAhead {O : Type 0} (owner : X → O) (R : X → X → Type 0) (at : ℕ → X → Type 0)
      (after : ℕ → Option ℕ) (first : O → Option ℕ) : Type 0 where
    pub ahead : (key : ℕ) (item : X) → at key item → IsNearest at (λ other. R item other) R (after key)
    pub heads : (o : O) → IsNearest at (λ item. owner item ≡ o) R (first o)
    pub once : (j k : ℕ) (item : X) → at j item → at k item → j ≡ k

  -- an item that comes before this one lies at the place, or there is no place
  abbrev pub IsBefore : (ℕ → X → Type 0) → (X → X → Type 0) → X → Option ℕ → Type 0
  IsBefore at R item None = Unit {0}
  IsBefore at R item (Some key) = (other : X) × at key other × R other item

  -- the place is that of the last item before this one; there is none where none comes before it
  abbrev pub IsPlaceOf : (ℕ → X → Type 0) → (X → X → Type 0) → X → Option ℕ → Type 0
  IsPlaceOf at R item place = IsNearest at (λ other. R other item) (λ a b. R b a) place

  -- an item of the owner lies at the place, or there is no place
  abbrev pub IsOn : {O : Type 0} → (X → O) → (ℕ → X → Type 0) → O → Option ℕ → Type 0
  IsOn owner at o None = Unit {0}
  IsOn owner at o (Some key) = (item : X) × at key item × (owner item ≡ o)

  -- the item is that of the place or comes before it: none does where there is no place
  abbrev pub IsUpTo : (ℕ → X → Type 0) → (X → X → Type 0) → Option ℕ → X → Type 0
  IsUpTo at R None item = ⊥
  IsUpTo at R (Some key) item = (last : X) × at key last × ((item ≡ last) ⊎ R item last)

  -- the items of an owner's list up to a place, in order
  pub record IsRunTo {O : Type 0} (owner : X → O) (R : X → X → Type 0) (at : ℕ → X → Type 0) (o : O)
      (place : Option ℕ) (run : List X) : Type 0 where
    pub on : IsOn owner at o place
    pub ascends : AllPairs R run
    pub exact : (item : X) → Contains run item ↔ (((key : ℕ) × at key item) × IsUpTo at R place item)

  -- the items of an owner, in order
  pub record IsRun {O : Type 0} (owner : X → O) (R : X → X → Type 0) (at : ℕ → X → Type 0) (o : O) (run : List X)
      : Type 0 where
    pub ascends : AllPairs R run
    pub exact : (item : X) → Contains run item ↔ (((key : ℕ) × at key item) × (owner item ≡ o))

-- what follows a place in an owner's list: the first where there is no place
abbrev pub follows : {O : Type 0} → (ℕ → Option ℕ) → (O → Option ℕ) → O → Option ℕ → Option ℕ
follows after first o None = first o
follows after first o (Some place) = after place

-- links one way as a new one at this key, of this owner, is put between two others
pub record AreJoinedAhead {O : Type 0} (key : ℕ) (o : O) (place next : Option ℕ) (after : ℕ → Option ℕ)
    (first : O → Option ℕ) (after_then : ℕ → Option ℕ) (first_then : O → Option ℕ) : Type 0 where
  pub own_after : after_then key ≡ next
  pub place_after : (p : ℕ) → place ≡ Some p → after_then p ≡ Some key
  pub other_after : (j : ℕ) → j ≢ key → place ≢ Some j → after_then j ≡ after j
  pub head : place ≡ None → first_then o ≡ Some key
  pub kept_head : (p : ℕ) → place ≡ Some p → first_then o ≡ first o
  pub other_heads : (x : O) → x ≢ o → first_then x ≡ first x

-- links one way as the one at this key, of this owner, is taken from between its neighbours
pub record ArePartedAhead {O : Type 0} (key : ℕ) (o : O) (place next : Option ℕ) (after : ℕ → Option ℕ)
    (first : O → Option ℕ) (after_then : ℕ → Option ℕ) (first_then : O → Option ℕ) : Type 0 where
  pub place_after : (p : ℕ) → place ≡ Some p → after_then p ≡ next
  pub other_after : (j : ℕ) → j ≢ key → place ≢ Some j → after_then j ≡ after j
  pub head : place ≡ None → first_then o ≡ next
  pub kept_head : (p : ℕ) → place ≡ Some p → first_then o ≡ first o
  pub other_heads : (x : O) → x ≢ o → first_then x ≡ first x

-- links as a new one at this key, of this owner, is put between two others
pub record AreJoined {O : Type 0} (key : ℕ) (o : O) (place next : Option ℕ) (after before : ℕ → Option ℕ)
    (first : O → Option ℕ) (after_then before_then : ℕ → Option ℕ) (first_then : O → Option ℕ) : Type 0 where
  pub own_after : after_then key ≡ next
  pub own_before : before_then key ≡ place
  pub place_after : (p : ℕ) → place ≡ Some p → after_then p ≡ Some key
  pub next_before : (n : ℕ) → next ≡ Some n → before_then n ≡ Some key
  pub other_after : (j : ℕ) → j ≢ key → place ≢ Some j → after_then j ≡ after j
  pub other_before : (j : ℕ) → j ≢ key → next ≢ Some j → before_then j ≡ before j
  pub head : place ≡ None → first_then o ≡ Some key
  pub kept_head : (p : ℕ) → place ≡ Some p → first_then o ≡ first o
  pub other_heads : (x : O) → x ≢ o → first_then x ≡ first x

-- links as the one at this key, of this owner, is taken from between its neighbours
pub record AreParted {O : Type 0} (key : ℕ) (o : O) (place next : Option ℕ) (after before : ℕ → Option ℕ)
    (first : O → Option ℕ) (after_then before_then : ℕ → Option ℕ) (first_then : O → Option ℕ) : Type 0 where
  pub place_after : (p : ℕ) → place ≡ Some p → after_then p ≡ next
  pub next_before : (n : ℕ) → next ≡ Some n → before_then n ≡ place
  pub other_after : (j : ℕ) → j ≢ key → place ≢ Some j → after_then j ≡ after j
  pub other_before : (j : ℕ) → j ≢ key → next ≢ Some j → before_then j ≡ before j
  pub head : place ≡ None → first_then o ≡ next
  pub kept_head : (p : ℕ) → place ≡ Some p → first_then o ≡ first o
  pub other_heads : (x : O) → x ≢ o → first_then x ≡ first x
