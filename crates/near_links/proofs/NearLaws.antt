-- Links to the nearest item, where an item comes or goes.
use Rattle.std.proofs.Common.{◌≡◌, ◌≢◌, ◌⊎◌, ℕ, Option, Some, None, refl, sym, ap, ◌∙◌, inl, inr, subst}
use Rattle.near_links.specs.Links.{IsNearest, IsAdded, IsRemoved, AreAtKeys}

-- a relation by which the items of one owner follow one another
pub record IsOrder {X O : Type 0} (owner : X → O) (R : X → X → Type 0) : Type 0 where
  pub owned : (a b : X) → R a b → owner a ≡ owner b
  pub never : (a : X) → ¬ R a a
  pub trans : (a b c : X) → R a b → R b c → R a c
  pub total : (a b : X) → owner a ≡ owner b → R a b ⊎ ((a ≡ b) ⊎ R b a)

-- the same the other way
pub flipped : {X O : Type 0} (owner : X → O) (R : X → X → Type 0) → IsOrder owner R → IsOrder owner (λ a b. R b a)
flipped owner R order = record {
  owned = λ a b r. sym (order.owned b a r);
  never = order.never;
  trans = λ a b c r s. order.trans c b a s r;
  total = λ a b same. elim (order.total a b same) [
    | inl less ↦ inr (inr less)
    | inr other ↦ elim other [ inl equal ↦ inr (inl equal) | inr more ↦ inl more ]
  ];
}

module _ {X : Type 0} where
  -- the item at the key that the link leads to, which is that one or before it
  pub record IsFound (at : ℕ → X → Type 0) (P : X → Type 0) (R : X → X → Type 0) (link : Option ℕ) (key : ℕ) (item : X) : Type 0 where
    pub first : ℕ
    pub near : X
    pub is : link ≡ Some first
    pub lies : at first near
    pub holds : P near
    pub reached : (key ≡ first) ⊎ R near item

  -- where P holds of some item there is a link, and it leads to that item or to one before it
  pub found : (at : ℕ → X → Type 0) (P : X → Type 0) (R : X → X → Type 0) (link : Option ℕ) → IsNearest at P R link
      → (key : ℕ) (item : X) → at key item → P item → IsFound at P R link key item
  found at P R None none key item lies holds = absurd (none key item lies holds)
  found at P R (Some first) nearest key item lies holds = record {
    first = first;
    near = nearest.0;
    is = refl;
    lies = nearest.1;
    holds = nearest.2;
    reached = nearest.3 key item lies holds;
  }

  -- the link leads to an item before this one
  pub record IsShort (at : ℕ → X → Type 0) (R : X → X → Type 0) (link : Option ℕ) (item : X) : Type 0 where
    pub first : ℕ
    pub near : X
    pub is : link ≡ Some first
    pub lies : at first near
    pub less : R near item

  -- the link stays where the new item is none of those, or lies beyond
  pub added-far : (before now : ℕ → X → Type 0) (k : ℕ) (e : X) → IsAdded before k e now → AreAtKeys before
      → (P : X → Type 0) (R : X → X → Type 0) (link : Option ℕ) → IsNearest before P R link
      → (P e → IsShort before R link e)
      → IsNearest now P R link
  added-far before now k e added one P R None none far = λ key item lies holds.
      elim (added.only key item lies) [
        | inl old ↦ none key item old holds
        | inr new ↦ let short = far (subst P new.1 holds) in let no : None ≡ Some short.first = short.is in absurd (cc)
      ]
  added-far before now k e added one P R (Some link) nearest far = (
    nearest.0,
    added.kept link nearest.0 nearest.1,
    nearest.2,
    λ key other lies holds.
        elim (added.only key other lies) [
          | inl old ↦ nearest.3 key other old holds
          | inr new ↦
              let short = far (subst P new.1 holds) in
              let at_link : short.first ≡ link = cc in
              let there = subst (λ (n : ℕ). before n short.near) at_link short.lies in
              let same = one link short.near nearest.0 there nearest.1 in
              inr (subst (λ (y : X). R nearest.0 y) (sym new.1) (subst (λ (y : X). R y e) same short.less))
        ],
  )

  -- the new item is the nearest where it is one of those and the link so far leads beyond it
  pub added-near : (before now : ℕ → X → Type 0) (k : ℕ) (e : X) → IsAdded before k e now
      → (P : X → Type 0) (R : X → X → Type 0) (link : Option ℕ) → IsNearest before P R link
      → ((a b c : X) → R a b → R b c → R a c) → P e
      → ((l : ℕ) (x : X) → link ≡ Some l → before l x → P x → R e x) → AreAtKeys before
      → IsNearest now P R (Some k)
  added-near before now k e added P R link nearest trans holds beyond one = (
    e,
    added.new,
    holds,
    λ key other lies also. elim (added.only key other lies) [
      | inl old ↦
          let at = found before P R link nearest key other old also in
          let less = beyond at.first at.near at.is at.lies at.holds in
          inr (elim at.reached [
            | inl same ↦
                let there = subst (λ (n : ℕ). before n other) same old in
                subst (λ (y : X). R e y) (one at.first at.near other at.lies there) less
            | inr more ↦ trans e at.near other less more
          ])
      | inr new ↦ inl new.0
    ],
  )

  -- a link that leads elsewhere stays where an item goes
  pub removed-other : (before now : ℕ → X → Type 0) (k : ℕ) → IsRemoved before k now
      → (P : X → Type 0) (R : X → X → Type 0) (link : Option ℕ) → IsNearest before P R link
      → link ≢ Some k → IsNearest now P R link
  removed-other before now k removed P R None none other = λ key item lies holds.
      none key item (removed.only key item lies).0 holds
  removed-other before now k removed P R (Some link) nearest other = (
    nearest.0,
    removed.kept link nearest.0 nearest.1 (λ same. other (ap Some same)),
    nearest.2,
    λ key item lies holds. nearest.3 key item (removed.only key item lies).0 holds,
  )

  -- a link to the item that goes leads to the one behind it then
  pub removed-next : (before now : ℕ → X → Type 0) (k : ℕ) (e : X) → IsRemoved before k now → AreAtKeys before → before k e
      → (P : X → Type 0) (R : X → X → Type 0) → IsNearest before P R (Some k)
      → (next : Option ℕ) → IsNearest before (R e) R next
      → ((x : X) → R e x → P x) → (¬ R e e)
      → IsNearest now P R next
  removed-next before now k e removed one at_k P R nearest None none upward never = λ key item lies holds.
      let old = removed.only key item lies in
      let same = one k nearest.0 e nearest.1 at_k in
      elim (nearest.3 key item old.0 holds) [
        | inl is ↦ old.1 is
        | inr more ↦ none key item old.0 (subst (λ (y : X). R y item) same more)
      ]
  removed-next before now k e removed one at_k P R nearest (Some next) after upward never =
      let same = one k nearest.0 e nearest.1 at_k in
      let apart : next ≢ k = λ is.
      let there = subst (λ (n : ℕ). before n after.0) is after.1 in
      never (subst (λ (y : X). R e y) (one k after.0 e there at_k) after.2) in (
        after.0,
        removed.kept next after.0 after.1 apart,
        upward after.0 after.2,
        λ key other lies holds.
            let old = removed.only key other lies in
            elim (nearest.3 key other old.0 holds) [
              | inl is ↦ absurd (old.1 is)
              | inr more ↦ after.3 key other old.0 (subst (λ (y : X). R y other) same more)
            ],
      )
