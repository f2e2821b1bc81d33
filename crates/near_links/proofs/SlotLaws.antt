-- Items in slots: which ones are listed, and how many lie behind one.
use Rattle.std.proofs.Common.{◌≡◌, ◌≢◌, ◌⊎◌, ◌↔◌, ℕ, zero, suc, ◌+◌, ◌<◌, ◌≤◌, Bool, true, false, cond, Less, Equal, Greater, Option, Some, None, List, [], ◌∷◌, ◌++◌, length, get_or, count_by, Contains, AllPairs, refl, sym, ap, ◌∙◌, inl, inr, subst, arith}
use Rattle.std.specs.declared.cmp.Ordering.{Ordering}
use Rattle.std.specs.Cmp.{IsTotalOrder}
use Rattle.std.specs.Ordering.{match_ordering, ordering_reverse}
use Rattle.std.specs.BTreeSet.{insert_key}
use Rattle.std.proofs.lemmas.Bool.{cases_lt, true≢false}
use Rattle.std.proofs.lemmas.List.{get_or_past}
use Rattle.std.proofs.lemmas.List.Elements.{Contains-get_or}
use Rattle.std.proofs.lemmas.List.Sums.{sum_by-cons, count_by-le-length}
use Rattle.lore_lists.proofs.ListLaws.{AllPairs-append, AllPairs-tail, AllPairs-head}
use Rattle.lore_lists.proofs.MemberLaws.{Contains-none, Contains-head, Contains-tail, Contains-cases, Contains-same}
use Rattle.near_links.specs.Slots.{with_item, listed, LiesIn}
use Rattle.near_links.proofs.AheadLaws.{some_same, none_some}

-- ---- lists into which an item is put
module _ {X : Type 0} (cmp : X → X → Ordering) (exact : (a b : X) → cmp a b ≡ Equal → a ≡ b) where
  inserted : (items : List X) (item other : X) → Contains (insert_key cmp items item) other → Contains items other ⊎ (item ≡ other)
  inserted [] item other at = elim (Contains-cases item [] other at) [ inl same ↦ inr same | inr none ↦ inl none ]
  inserted (first ∷ items) item other at =
      elim (cmp item first) as (λ o. Contains (match_ordering o (item ∷ first ∷ items) (first ∷ items) (first ∷ insert_key cmp items item)) other → Contains (first ∷ items) other ⊎ (item ≡ other)) [
        | Less ↦ λ here. elim (Contains-cases item (first ∷ items) other here) [ inl same ↦ inr same | inr later ↦ inl later ]
        | Equal ↦ λ here. inl here
        | Greater ↦ λ here. elim (Contains-cases first (insert_key cmp items item) other here) [
          | inl same ↦ inl (Contains-same (first ∷ items) first other same (Contains-head first items))
          | inr later ↦ elim (inserted items item other later) [ inl old ↦ inl (Contains-tail first items other old) | inr same ↦ inr same ]
        ]
      ] at

  kept-inserted : (items : List X) (item other : X) → Contains items other → Contains (insert_key cmp items item) other
  kept-inserted [] item other at = absurd (Contains-none other at)
  kept-inserted (first ∷ items) item other at =
      elim (cmp item first) as (λ o. Contains (match_ordering o (item ∷ first ∷ items) (first ∷ items) (first ∷ insert_key cmp items item)) other) [
        | Less ↦ Contains-tail item (first ∷ items) other at
        | Equal ↦ at
        | Greater ↦ elim (Contains-cases first items other at) [
          | inl same ↦ Contains-same (first ∷ insert_key cmp items item) first other same (Contains-head first (insert_key cmp items item))
          | inr later ↦ Contains-tail first (insert_key cmp items item) other (kept-inserted items item other later)
        ]
      ]

  new-inserted : (items : List X) (item : X) → Contains (insert_key cmp items item) item
  new-inserted [] item = Contains-head item []
  new-inserted (first ∷ items) item =
      elim (cmp item first) as (λ o. cmp item first ≡ o → Contains (match_ordering o (item ∷ first ∷ items) (first ∷ items) (first ∷ insert_key cmp items item)) item) [
        | Less ↦ λ less. Contains-head item (first ∷ items)
        | Equal ↦ λ same. Contains-same (first ∷ items) first item (sym (exact item first same)) (Contains-head first items)
        | Greater ↦ λ greater. Contains-tail first (insert_key cmp items item) item (new-inserted items item)
      ] refl

  ascend-one : (item : X) → AllPairs (λ a b. cmp a b ≡ Less) (item ∷ [])
  ascend-one item i j d lt len = absurd (omega arith)

  ascend-cons : (item : X) (items : List X) → ((other : X) → Contains items other → cmp item other ≡ Less) → AllPairs (λ a b. cmp a b ≡ Less) items
      → AllPairs (λ a b. cmp a b ≡ Less) (item ∷ items)
  ascend-cons item items above ascend =
      AllPairs-append (λ a b. cmp a b ≡ Less) (item ∷ []) items (ascend-one item) ascend
      (λ i j d lt_i lt_j.
      let here : i ≡ 0 = omega arith in
      rw here (above (get_or items j d) (Contains-get_or items j d lt_j)))

  ascend-inserted : IsTotalOrder cmp → (items : List X) (item : X) → AllPairs (λ a b. cmp a b ≡ Less) items → AllPairs (λ a b. cmp a b ≡ Less) (insert_key cmp items item)
  ascend-inserted total [] item ascend = ascend-one item
  ascend-inserted total (first ∷ items) item ascend =
      let others = ascend-inserted total items item (AllPairs-tail (λ a b. cmp a b ≡ Less) first items ascend) in
      let above = AllPairs-head (λ a b. cmp a b ≡ Less) first items ascend in
      elim (cmp item first) as (λ o. cmp item first ≡ o → AllPairs (λ a b. cmp a b ≡ Less) (match_ordering o (item ∷ first ∷ items) (first ∷ items) (first ∷ insert_key cmp items item))) [
        | Less ↦ λ less. ascend-cons item (first ∷ items)
            (λ other at. elim (Contains-cases first items other at) [
              | inl same ↦ subst (λ (y : X). cmp item y ≡ Less) same less
              | inr later ↦ total.trans item first other less (above other later)
            ])
            ascend
        | Equal ↦ λ same. ascend
        | Greater ↦ λ greater. ascend-cons first (insert_key cmp items item)
            (λ other at. elim (inserted items item other at) [
              | inl old ↦ above other old
              | inr same ↦ subst (λ (y : X). cmp first y ≡ Less) same (total.antisymm first item ∙ ap ordering_reverse greater)
            ])
            others
      ] refl

-- ---- the items of slots
module _ {S X : Type 0} (item_in : S → Option X) (cmp : X → X → Ordering) (exact : (a b : X) → cmp a b ≡ Equal → a ≡ b) (empty : S) (holds_none : item_in empty ≡ None) where
  pub ascend_listed : IsTotalOrder cmp → (slots : List S) → AllPairs (λ a b. cmp a b ≡ Less) (listed item_in cmp slots)
  ascend_listed total [] = λ i j d lt len. absurd (omega (arith, len))
  ascend_listed total (slot ∷ slots) = at (ascend_listed total slots) (item_in slot)
    where
      at : AllPairs (λ a b. cmp a b ≡ Less) (listed item_in cmp slots) → (o : Option X) → AllPairs (λ a b. cmp a b ≡ Less) (with_item cmp (listed item_in cmp slots) o)
      at others None = others
      at others (Some item) = ascend-inserted cmp exact total (listed item_in cmp slots) item others

  lies_later : (slot : S) (slots : List S) (item : X) → ((key : ℕ) × LiesIn item_in empty slots key item) → (key : ℕ) × LiesIn item_in empty (slot ∷ slots) key item
  lies_later slot slots item has = (suc has.0, has.1)

  listed_lies : (slots : List S) (item : X) → Contains (listed item_in cmp slots) item → (key : ℕ) × LiesIn item_in empty slots key item
  listed_lies [] item at = absurd (Contains-none item at)
  listed_lies (slot ∷ slots) item at = go (λ old. lies_later slot slots item (listed_lies slots item old)) (item_in slot) refl at
    where
      go : (Contains (listed item_in cmp slots) item → (key : ℕ) × LiesIn item_in empty (slot ∷ slots) key item) → (o : Option X) → item_in slot ≡ o
          → Contains (with_item cmp (listed item_in cmp slots) o) item → (key : ℕ) × LiesIn item_in empty (slot ∷ slots) key item
      go later None is within = later within
      go later (Some here) is within = elim (inserted cmp exact (listed item_in cmp slots) here item within) [
        | inl old ↦ later old
        | inr same ↦ (0, is ∙ ap Some same)
      ]

  lies_listed : (slots : List S) (item : X) (key : ℕ) → LiesIn item_in empty slots key item → Contains (listed item_in cmp slots) item
  lies_listed [] item key lies = absurd (none_some (sym holds_none ∙ lies))
  lies_listed (slot ∷ slots) item zero lies =
      subst (λ (o : Option X). Contains (with_item cmp (listed item_in cmp slots) o) item) (sym lies) (new-inserted cmp exact (listed item_in cmp slots) item)
  lies_listed (slot ∷ slots) item (suc key) lies = go (lies_listed slots item key lies) (item_in slot)
    where
      go : Contains (listed item_in cmp slots) item → (o : Option X) → Contains (with_item cmp (listed item_in cmp slots) o) item
      go later None = later
      go later (Some here) = kept-inserted cmp exact (listed item_in cmp slots) here item later

  pub members : (slots : List S) (item : X) → Contains (listed item_in cmp slots) item ↔ ((key : ℕ) × LiesIn item_in empty slots key item)
  members slots item = (listed_lies slots item, λ has. lies_listed slots item has.0 has.1)

-- ---- how many items lie behind a place
count-le : {X : Type 0} (p q : X → Bool) (xs : List X) → ((x : X) → q x ≡ true → p x ≡ true) → count_by q xs ≤ count_by p xs
count-le p q [] within = omega arith
count-le p q (x ∷ xs) within =
    let rest = count-le p q xs within in
    let of_p = sum_by-cons (λ y. cond (p y) 1 0) x xs in
    let of_q = sum_by-cons (λ y. cond (q y) 1 0) x xs in
    elim (q x) as (λ b. q x ≡ b → count_by q (x ∷ xs) ≤ count_by p (x ∷ xs)) [
      | true ↦ λ is.
          let one : ◌≡◌ {A = ℕ} (cond (q x) 1 0) 1 = ap (λ b. cond b 1 0) is in
          let also : ◌≡◌ {A = ℕ} (cond (p x) 1 0) 1 = ap (λ b. cond b 1 0) (within x is) in
          omega (arith, rest, of_p, of_q, one, also)
      | false ↦ λ is.
          let none : ◌≡◌ {A = ℕ} (cond (q x) 1 0) 0 = ap (λ b. cond b 1 0) is in
          omega (arith, rest, of_p, of_q, none)
    ] refl

count-less : {X : Type 0} (p q : X → Bool) (xs : List X) → ((x : X) → q x ≡ true → p x ≡ true) → (k : ℕ) (d : X) → k < length xs
    → p (get_or xs k d) ≡ true → q (get_or xs k d) ≡ false → count_by q xs < count_by p xs
count-less p q [] within k d lt is_p not_q = absurd (omega arith)
count-less p q (x ∷ xs) within zero d lt is_p not_q =
    let rest = count-le p q xs within in
    let of_p = sum_by-cons (λ y. cond (p y) 1 0) x xs in
    let of_q = sum_by-cons (λ y. cond (q y) 1 0) x xs in
    let one : ◌≡◌ {A = ℕ} (cond (p x) 1 0) 1 = ap (λ b. cond b 1 0) is_p in
    let none : ◌≡◌ {A = ℕ} (cond (q x) 1 0) 0 = ap (λ b. cond b 1 0) not_q in
    omega (arith, rest, of_p, of_q, one, none)
count-less p q (x ∷ xs) within (suc k) d lt is_p not_q =
    let rest = count-less p q xs within k d (omega arith) is_p not_q in
    let head = count-le p q (x ∷ []) within in
    let of_p = sum_by-cons (λ y. cond (p y) 1 0) x xs in
    let of_q = sum_by-cons (λ y. cond (q y) 1 0) x xs in
    let of_p1 = sum_by-cons (λ y. cond (p y) 1 0) x [] in
    let of_q1 = sum_by-cons (λ y. cond (q y) 1 0) x [] in
    omega (arith, rest, head, of_p, of_q, of_p1, of_q1)

abbrev is_less : Ordering → Bool
is_less Less = true
is_less Equal = false
is_less Greater = false

less_true : (o : Ordering) → is_less o ≡ true → o ≡ Less
less_true Less h = refl
less_true Equal h = absurd (true≢false (sym h))
less_true Greater h = absurd (true≢false (sym h))

abbrev lies_behind : {X : Type 0} → (X → X → Ordering) → X → Option X → Bool
lies_behind cmp item None = false
lies_behind cmp item (Some other) = is_less (cmp item other)

abbrev behind : {S X : Type 0} → (S → Option X) → (X → X → Ordering) → List S → Option X → ℕ
behind item_in cmp slots None = 0
behind item_in cmp slots (Some item) = count_by (λ slot. lies_behind cmp item (item_in slot)) slots

-- how many items come behind that of the place; more than there are where there is no place
abbrev pub behind_place : {S X : Type 0} → (S → Option X) → (X → X → Ordering) → S → List S → Option ℕ → ℕ
behind_place item_in cmp empty slots None = length slots + 1
behind_place item_in cmp empty slots (Some key) = behind item_in cmp slots (item_in (get_or slots key empty))

module _ {S X : Type 0} (item_in : S → Option X) (cmp : X → X → Ordering) (total : IsTotalOrder cmp) (self : (a : X) → cmp a a ≡ Equal) (empty : S) (holds_none : item_in empty ≡ None) where
  pub key_within : (slots : List S) (key : ℕ) (item : X) → LiesIn item_in empty slots key item → key < length slots
  key_within slots key item lies = elim (cases_lt key (length slots)) [
    | inl lt ↦ lt
    | inr ge ↦ absurd (none_some (sym (ap item_in (get_or_past slots key empty ge) ∙ holds_none) ∙ lies))
  ]

  -- fewer come behind an item behind
  fewer_behind : (slots : List S) (a b : X) (key : ℕ) → LiesIn item_in empty slots key b → cmp a b ≡ Less
      → behind item_in cmp slots (Some b) < behind item_in cmp slots (Some a)
  fewer_behind slots a b key lies less =
      count-less (λ slot. lies_behind cmp a (item_in slot)) (λ slot. lies_behind cmp b (item_in slot)) slots (λ slot. further (item_in slot)) key empty
      (key_within slots key b lies)
      (ap (lies_behind cmp a) lies ∙ ap is_less less) (ap (lies_behind cmp b) lies ∙ ap is_less (self b))
    where
      further : (o : Option X) → lies_behind cmp b o ≡ true → lies_behind cmp a o ≡ true
      further None h = absurd (true≢false (sym h))
      further (Some x) h = ap is_less (total.trans a b x less (less_true (cmp b x) h))

  -- a walk comes nearer to the end
  pub fewer_from : (slots : List S) (place : Option ℕ) (next : ℕ) (item : X) → LiesIn item_in empty slots next item
      → ((p : ℕ) → place ≡ Some p → (x : X) × LiesIn item_in empty slots p x × (cmp x item ≡ Less))
      → behind_place item_in cmp empty slots (Some next) < behind_place item_in cmp empty slots place
  fewer_from slots None next item lies nearer =
      let here : behind_place item_in cmp empty slots (Some next) ≡ behind item_in cmp slots (Some item) = ap (behind item_in cmp slots) lies in
      omega (arith, here, count_by-le-length (λ slot. lies_behind cmp item (item_in slot)) slots)
  fewer_from slots (Some place) next item lies nearer =
      let x = nearer place refl in
      let here : behind_place item_in cmp empty slots (Some next) ≡ behind item_in cmp slots (Some item) = ap (behind item_in cmp slots) lies in
      let there : behind_place item_in cmp empty slots (Some place) ≡ behind item_in cmp slots (Some x.0) = ap (behind item_in cmp slots) x.1 in
      omega (arith, here, there, fewer_behind slots x.0 item next lies x.2)
