-- Links stay right where an item is joined to its list and where one is parted from it.
use Rattle.std.proofs.Common.{◌≡◌, ◌≢◌, ◌⊎◌, ℕ, Option, Some, None, refl, sym, ap, ◌∙◌, inl, inr, subst}
use Rattle.std.proofs.lemmas.Bool.{cases_eq}
use Rattle.near_links.specs.Links.{IsNearest, IsAdded, IsRemoved, AreAtKeys, AreLinked, AreAhead, AreJoined, AreParted, AreJoinedAhead, ArePartedAhead}
use Rattle.near_links.proofs.NearLaws.{IsOrder, flipped, IsFound, found, IsShort, added-far, added-near, removed-other, removed-next}

-- whether a link leads to a key
pub leads : (link : Option ℕ) (key : ℕ) → (link ≡ Some key) ⊎ (link ≢ Some key)
leads None key = inr (λ same. absurd (cc))
leads (Some there) key = elim (cases_eq there key) [
  | inl same ↦ inl (ap Some same)
  | inr other ↦ inr (λ same. other (cc))
]

-- whether there is a link
pub leads_on : (link : Option ℕ) → (link ≡ None) ⊎ ((key : ℕ) × (link ≡ Some key))
leads_on None = inl refl
leads_on (Some key) = inr (key, refl)

module _ {X O : Type 0} (owner : X → O) (R : X → X → Type 0) (order : IsOrder owner R) (at : ℕ → X → Type 0) (one : AreAtKeys at) where
  -- one way along the lists, where an item is joined
  joined-way : (now : ℕ → X → Type 0) (key : ℕ) (e : X) → IsAdded at key e now → ((j : ℕ) (x : X) → at j x → x ≢ e)
      → (place next : Option ℕ) → IsNearest at (λ y. R y e) (λ a b. R b a) place → IsNearest at (λ y. R e y) R next
      → (after after_then : ℕ → Option ℕ) → ((j : ℕ) (x : X) → at j x → IsNearest at (λ y. R x y) R (after j))
      → after_then key ≡ next → ((p : ℕ) → place ≡ Some p → after_then p ≡ Some key)
      → ((j : ℕ) → j ≢ key → place ≢ Some j → after_then j ≡ after j)
      → (j : ℕ) (x : X) → now j x → IsNearest now (λ y. R x y) R (after_then j)
  joined-way now key e added fresh place next at_place at_next after after_then linked own placed other j x lies =
      elim (added.only j x lies) [
        | inr new ↦
            let far = added-far at now key e added one (λ y. R e y) R next at_next (λ self. absurd (order.never e self)) in
            let here : after_then j ≡ next = ap after_then new.0 ∙ own in
            subst (λ (l : Option ℕ). IsNearest now (λ y. R x y) R l) (sym here) (subst (λ (z : X). IsNearest now (λ y. R z y) R next) (sym new.1) far)
        | inl old ↦
            let apart : j ≢ key = λ same. added.vacant x (subst (λ (n : ℕ). at n x) same old) in
            elim (leads place j) [
              | inl is ↦
                  let near = subst (λ (l : Option ℕ). IsNearest at (λ y. R y e) (λ a b. R b a) l) is at_place in
                  let same = one j near.0 x near.1 old in
                  let less = subst (λ (z : X). R z e) same near.2 in
                  let beyond : (l : ℕ) (y : X) → after j ≡ Some l → at l y → R x y → R e y = λ l y _ there more.
                  elim (order.total y e (sym (order.owned x y more) ∙ order.owned x e less)) [
                    | inl before ↦ absurd (elim (near.3 l y there before) [
                      | inl at_j ↦ order.never x (subst (λ (z : X). R x z) (one j y x (subst (λ (n : ℕ). at n y) at_j there) old) more)
                      | inr back ↦ order.never x (order.trans x y x more (subst (λ (z : X). R y z) same back))
                    ])
                    | inr others ↦ elim others [ inl equal ↦ absurd (fresh l y there equal) | inr behind ↦ behind ]
                  ] in
                  subst (λ (l : Option ℕ). IsNearest now (λ y. R x y) R l) (sym (placed j is))
                  (added-near at now key e added (λ y. R x y) R (after j) (linked j x old) order.trans less beyond one)
              | inr not_place ↦
                  let far = λ (less : R x e).
                  let at_p = found at (λ y. R y e) (λ a b. R b a) place at_place j x old less in
                  let before_p : R x at_p.near = elim at_p.reached [
                    | inl same ↦ absurd (not_place (at_p.is ∙ ap Some (sym same)))
                    | inr more ↦ more
                  ] in
                  let at_l = found at (λ y. R x y) R (after j) (linked j x old) at_p.first at_p.near at_p.lies before_p in
                  let short : R at_l.near e = elim at_l.reached [
                    | inl same ↦
                        let there = subst (λ (n : ℕ). at n at_p.near) same at_p.lies in
                        subst (λ (z : X). R z e) (one at_l.first at_p.near at_l.near there at_l.lies) at_p.holds
                    | inr more ↦ order.trans at_l.near at_p.near e more at_p.holds
                  ] in
                  let result : IsShort at R (after j) e = record { first = at_l.first; near = at_l.near; is = at_l.is; lies = at_l.lies; less = short } in
                  result in
                  subst (λ (l : Option ℕ). IsNearest now (λ y. R x y) R l) (sym (other j apart not_place))
                  (added-far at now key e added one (λ y. R x y) R (after j) (linked j x old) far)
            ]
      ]

  -- one way along the lists, where an item is parted
  parted-way : (now : ℕ → X → Type 0) (key : ℕ) (e : X) → IsRemoved at key now → at key e
      → (place next : Option ℕ) → IsNearest at (λ y. R y e) (λ a b. R b a) place → IsNearest at (λ y. R e y) R next
      → (after after_then : ℕ → Option ℕ) → ((j : ℕ) (x : X) → at j x → IsNearest at (λ y. R x y) R (after j))
      → ((p : ℕ) → place ≡ Some p → after_then p ≡ next)
      → ((j : ℕ) → j ≢ key → place ≢ Some j → after_then j ≡ after j)
      → (j : ℕ) (x : X) → now j x → IsNearest now (λ y. R x y) R (after_then j)
  parted-way now key e removed at_key place next at_place at_next after after_then linked placed other j x lies =
      let old = removed.only j x lies in
      elim (leads place j) [
        | inl is ↦
            let near = subst (λ (l : Option ℕ). IsNearest at (λ y. R y e) (λ a b. R b a) l) is at_place in
            let same = one j near.0 x near.1 old.0 in
            let less = subst (λ (z : X). R z e) same near.2 in
            let at_l = found at (λ y. R x y) R (after j) (linked j x old.0) key e at_key less in
            let to_key : after j ≡ Some key = elim at_l.reached [
              | inl here ↦ at_l.is ∙ ap Some (sym here)
              | inr short ↦ absurd (elim (near.3 at_l.first at_l.near at_l.lies short) [
                | inl at_j ↦ order.never x (subst (λ (z : X). R x z) (one j at_l.near x (subst (λ (n : ℕ). at n at_l.near) at_j at_l.lies) old.0) at_l.holds)
                | inr back ↦ order.never x (order.trans x at_l.near x at_l.holds (subst (λ (z : X). R at_l.near z) same back))
              ])
            ] in
            let nearest = subst (λ (l : Option ℕ). IsNearest at (λ y. R x y) R l) to_key (linked j x old.0) in
            subst (λ (l : Option ℕ). IsNearest now (λ y. R x y) R l) (sym (placed j is))
            (removed-next at now key e removed one at_key (λ y. R x y) R nearest next at_next (λ y more. order.trans x e y less more) (order.never e))
        | inr not_place ↦
            let elsewhere : after j ≢ Some key = λ to_key.
            let nearest = subst (λ (l : Option ℕ). IsNearest at (λ y. R x y) R l) to_key (linked j x old.0) in
            let less = subst (λ (z : X). R x z) (one key nearest.0 e nearest.1 at_key) nearest.2 in
            let at_p = found at (λ y. R y e) (λ a b. R b a) place at_place j x old.0 less in
            elim at_p.reached [
              | inl here ↦ not_place (at_p.is ∙ ap Some (sym here))
              | inr more ↦ elim (nearest.3 at_p.first at_p.near at_p.lies more) [
                | inl at_k ↦
                    let there = subst (λ (n : ℕ). at n at_p.near) at_k at_p.lies in
                    order.never e (subst (λ (z : X). R z e) (one key at_p.near e there at_key) at_p.holds)
                | inr beyond ↦
                    let past = subst (λ (z : X). R z at_p.near) (one key nearest.0 e nearest.1 at_key) beyond in
                    order.never e (order.trans e at_p.near e past at_p.holds)
              ]
            ] in
            subst (λ (l : Option ℕ). IsNearest now (λ y. R x y) R l) (sym (other j old.1 not_place))
            (removed-other at now key removed (λ y. R x y) R (after j) (linked j x old.0) elsewhere)
      ]

  -- the heads, where an item is joined
  pub joined-heads : ((a b : O) → (a ≡ b) ⊎ (a ≢ b)) → (now : ℕ → X → Type 0) (key : ℕ) (e : X) → IsAdded at key e now → ((j : ℕ) (x : X) → at j x → x ≢ e)
      → (place : Option ℕ) → IsNearest at (λ y. R y e) (λ a b. R b a) place
      → (first first_then : O → Option ℕ) → ((o : O) → IsNearest at (λ y. owner y ≡ o) R (first o))
      → (place ≡ None → first_then (owner e) ≡ Some key) → ((p : ℕ) → place ≡ Some p → first_then (owner e) ≡ first (owner e))
      → ((x : O) → x ≢ owner e → first_then x ≡ first x)
      → (o : O) → IsNearest now (λ y. owner y ≡ o) R (first_then o)
  joined-heads decide now key e added fresh place at_place first first_then heads head kept_head others o = elim (decide o (owner e)) [
    | inl own ↦ subst (λ (a : O). IsNearest now (λ y. owner y ≡ a) R (first_then a)) (sym own) (own_first (leads_on place))
    | inr other ↦ subst (λ (l : Option ℕ). IsNearest now (λ y. owner y ≡ o) R l) (sym (others o other))
        (added-far at now key e added one (λ y. owner y ≡ o) R (first o) (heads o) (λ same. absurd (other (sym same))))
  ]
    where
      own_first : ((place ≡ None) ⊎ ((p : ℕ) × (place ≡ Some p))) → IsNearest now (λ y. owner y ≡ owner e) R (first_then (owner e))
      own_first (inl none) =
          let nothing = subst (λ (l : Option ℕ). IsNearest at (λ y. R y e) (λ a b. R b a) l) none at_place in
          let beyond : (l : ℕ) (y : X) → first (owner e) ≡ Some l → at l y → owner y ≡ owner e → R e y = λ l y _ there same.
          elim (order.total y e same) [
            | inl less ↦ absurd (nothing l y there less)
            | inr others ↦ elim others [ inl equal ↦ absurd (fresh l y there equal) | inr behind ↦ behind ]
          ] in
          subst (λ (l : Option ℕ). IsNearest now (λ y. owner y ≡ owner e) R l) (sym (head none))
          (added-near at now key e added (λ y. owner y ≡ owner e) R (first (owner e)) (heads (owner e)) order.trans refl beyond one)
      own_first (inr some) =
          let near = subst (λ (l : Option ℕ). IsNearest at (λ y. R y e) (λ a b. R b a) l) some.1 at_place in
          let at_l = found at (λ y. owner y ≡ owner e) R (first (owner e)) (heads (owner e)) some.0 near.0 near.1 (order.owned near.0 e near.2) in
          let short : R at_l.near e = elim at_l.reached [
            | inl same ↦ subst (λ (z : X). R z e) (one at_l.first near.0 at_l.near (subst (λ (n : ℕ). at n near.0) same near.1) at_l.lies) near.2
            | inr more ↦ order.trans at_l.near near.0 e more near.2
          ] in
          subst (λ (l : Option ℕ). IsNearest now (λ y. owner y ≡ owner e) R l) (sym (kept_head some.0 some.1))
          (added-far at now key e added one (λ y. owner y ≡ owner e) R (first (owner e)) (heads (owner e))
          (λ _. record { first = at_l.first; near = at_l.near; is = at_l.is; lies = at_l.lies; less = short }))

  -- the heads, where an item is parted
  pub parted-heads : ((a b : O) → (a ≡ b) ⊎ (a ≢ b)) → (now : ℕ → X → Type 0) (key : ℕ) (e : X) → IsRemoved at key now → at key e
      → (place next : Option ℕ) → IsNearest at (λ y. R y e) (λ a b. R b a) place → IsNearest at (λ y. R e y) R next
      → (first first_then : O → Option ℕ) → ((o : O) → IsNearest at (λ y. owner y ≡ o) R (first o))
      → (place ≡ None → first_then (owner e) ≡ next) → ((p : ℕ) → place ≡ Some p → first_then (owner e) ≡ first (owner e))
      → ((x : O) → x ≢ owner e → first_then x ≡ first x)
      → (o : O) → IsNearest now (λ y. owner y ≡ o) R (first_then o)
  parted-heads decide now key e removed at_key place next at_place at_next first first_then heads head kept_head others o = elim (decide o (owner e)) [
    | inl own ↦ subst (λ (a : O). IsNearest now (λ y. owner y ≡ a) R (first_then a)) (sym own) (own_first (leads_on place))
    | inr other ↦
        let elsewhere : first o ≢ Some key = λ to_key.
        let nearest = subst (λ (l : Option ℕ). IsNearest at (λ y. owner y ≡ o) R l) to_key (heads o) in
        other (sym nearest.2 ∙ ap owner (one key nearest.0 e nearest.1 at_key)) in
        subst (λ (l : Option ℕ). IsNearest now (λ y. owner y ≡ o) R l) (sym (others o other))
        (removed-other at now key removed (λ y. owner y ≡ o) R (first o) (heads o) elsewhere)
  ]
    where
      own_first : ((place ≡ None) ⊎ ((p : ℕ) × (place ≡ Some p))) → IsNearest now (λ y. owner y ≡ owner e) R (first_then (owner e))
      own_first (inl none) =
          let nothing = subst (λ (l : Option ℕ). IsNearest at (λ y. R y e) (λ a b. R b a) l) none at_place in
          let at_l = found at (λ y. owner y ≡ owner e) R (first (owner e)) (heads (owner e)) key e at_key refl in
          let to_key : first (owner e) ≡ Some key = elim at_l.reached [
            | inl here ↦ at_l.is ∙ ap Some (sym here)
            | inr short ↦ absurd (nothing at_l.first at_l.near at_l.lies short)
          ] in
          let nearest = subst (λ (l : Option ℕ). IsNearest at (λ y. owner y ≡ owner e) R l) to_key (heads (owner e)) in
          subst (λ (l : Option ℕ). IsNearest now (λ y. owner y ≡ owner e) R l) (sym (head none))
          (removed-next at now key e removed one at_key (λ y. owner y ≡ owner e) R nearest next at_next (λ y more. sym (order.owned e y more)) (order.never e))
      own_first (inr some) =
          let near = subst (λ (l : Option ℕ). IsNearest at (λ y. R y e) (λ a b. R b a) l) some.1 at_place in
          let elsewhere : first (owner e) ≢ Some key = λ to_key.
          let nearest = subst (λ (l : Option ℕ). IsNearest at (λ y. owner y ≡ owner e) R l) to_key (heads (owner e)) in
          elim (nearest.3 some.0 near.0 near.1 (order.owned near.0 e near.2)) [
            | inl at_k ↦
                let there = subst (λ (n : ℕ). at n near.0) at_k near.1 in
                order.never e (subst (λ (z : X). R z e) (one key near.0 e there at_key) near.2)
            | inr beyond ↦
                let past = subst (λ (z : X). R z near.0) (one key nearest.0 e nearest.1 at_key) beyond in
                order.never e (order.trans e near.0 e past near.2)
          ] in
          subst (λ (l : Option ℕ). IsNearest now (λ y. owner y ≡ owner e) R l) (sym (kept_head some.0 some.1))
          (removed-other at now key removed (λ y. owner y ≡ owner e) R (first (owner e)) (heads (owner e)) elsewhere)

-- a new item between the nearest before it and the nearest after it
pub joined : {X O : Type 0} (owner : X → O) (R : X → X → Type 0) → IsOrder owner R → ((a b : O) → (a ≡ b) ⊎ (a ≢ b))
    → (at now : ℕ → X → Type 0) → AreAtKeys at → (after before : ℕ → Option ℕ) (first : O → Option ℕ) → AreLinked owner R at after before first
    → (key : ℕ) (e : X) → IsAdded at key e now → ((j : ℕ) (x : X) → at j x → x ≢ e)
    → (place next : Option ℕ) → IsNearest at (λ y. R y e) (λ a b. R b a) place → IsNearest at (λ y. R e y) R next
    → (after_then before_then : ℕ → Option ℕ) (first_then : O → Option ℕ)
    → AreJoined key (owner e) place next after before first after_then before_then first_then
    → AreLinked owner R now after_then before_then first_then
joined owner R order decide at now one after before first linked key e added fresh place next at_place at_next after_then before_then first_then join = record {
  ahead = joined-way owner R order at one now key e added fresh place next at_place at_next after after_then linked.ahead join.own_after join.place_after join.other_after;
  back = joined-way owner (λ a b. R b a) (flipped owner R order) at one now key e added fresh next place at_next at_place before before_then linked.back join.own_before join.next_before join.other_before;
  heads = joined-heads owner R order at one decide now key e added fresh place at_place first first_then linked.heads join.head join.kept_head join.other_heads;
}

-- an item goes from between its neighbours
pub parted : {X O : Type 0} (owner : X → O) (R : X → X → Type 0) → IsOrder owner R → ((a b : O) → (a ≡ b) ⊎ (a ≢ b))
    → (at now : ℕ → X → Type 0) → AreAtKeys at → (after before : ℕ → Option ℕ) (first : O → Option ℕ) → AreLinked owner R at after before first
    → (key : ℕ) (e : X) → IsRemoved at key now → at key e
    → (after_then before_then : ℕ → Option ℕ) (first_then : O → Option ℕ)
    → AreParted key (owner e) (before key) (after key) after before first after_then before_then first_then
    → AreLinked owner R now after_then before_then first_then
parted {X} {O} owner R order decide at now one after before first linked key e removed at_key after_then before_then first_then part = record {
  ahead = parted-way owner R order at one now key e removed at_key (before key) (after key) at_place at_next after after_then linked.ahead part.place_after part.other_after;
  back = parted-way owner (λ a b. R b a) (flipped owner R order) at one now key e removed at_key (after key) (before key) at_next at_place before before_then linked.back part.next_before part.other_before;
  heads = parted-heads owner R order at one decide now key e removed at_key (before key) (after key) at_place at_next first first_then linked.heads part.head part.kept_head part.other_heads;
}
  where
    at_place : IsNearest at (λ y. R y e) (λ a b. R b a) (before key)
    at_place = linked.back key e at_key

    at_next : IsNearest at (λ y. R e y) R (after key)
    at_next = linked.ahead key e at_key

-- the same one way
pub joined-ahead : {X O : Type 0} (owner : X → O) (R : X → X → Type 0) → IsOrder owner R → ((a b : O) → (a ≡ b) ⊎ (a ≢ b))
    → (at now : ℕ → X → Type 0) → AreAtKeys at → (after : ℕ → Option ℕ) (first : O → Option ℕ) → AreAhead owner R at after first
    → (key : ℕ) (e : X) → IsAdded at key e now → ((j : ℕ) (x : X) → at j x → x ≢ e)
    → (place next : Option ℕ) → IsNearest at (λ y. R y e) (λ a b. R b a) place → IsNearest at (λ y. R e y) R next
    → (after_then : ℕ → Option ℕ) (first_then : O → Option ℕ) → AreJoinedAhead key (owner e) place next after first after_then first_then
    → AreAhead owner R now after_then first_then
joined-ahead owner R order decide at now one after first lists key e added fresh place next at_place at_next after_then first_then join = record {
  ahead = joined-way owner R order at one now key e added fresh place next at_place at_next after after_then lists.ahead join.own_after join.place_after join.other_after;
  heads = joined-heads owner R order at one decide now key e added fresh place at_place first first_then lists.heads join.head join.kept_head join.other_heads;
  once = λ j k x at_j at_k. elim (added.only j x at_j) [
    | inl old_j ↦ elim (added.only k x at_k) [
      | inl old_k ↦ lists.once j k x old_j old_k
      | inr new_k ↦ absurd (fresh j x old_j new_k.1)
    ]
    | inr new_j ↦ elim (added.only k x at_k) [
      | inl old_k ↦ absurd (fresh k x old_k new_j.1)
      | inr new_k ↦ new_j.0 ∙ sym new_k.0
    ]
  ];
}

pub parted-ahead : {X O : Type 0} (owner : X → O) (R : X → X → Type 0) → IsOrder owner R → ((a b : O) → (a ≡ b) ⊎ (a ≢ b))
    → (at now : ℕ → X → Type 0) → AreAtKeys at → (after : ℕ → Option ℕ) (first : O → Option ℕ) → AreAhead owner R at after first
    → (key : ℕ) (e : X) → IsRemoved at key now → at key e → (place : Option ℕ) → IsNearest at (λ y. R y e) (λ a b. R b a) place
    → (after_then : ℕ → Option ℕ) (first_then : O → Option ℕ) → ArePartedAhead key (owner e) place (after key) after first after_then first_then
    → AreAhead owner R now after_then first_then
parted-ahead owner R order decide at now one after first lists key e removed at_key place at_place after_then first_then part = record {
  ahead = parted-way owner R order at one now key e removed at_key place (after key) at_place (lists.ahead key e at_key) after after_then lists.ahead part.place_after part.other_after;
  heads = parted-heads owner R order at one decide now key e removed at_key place (after key) at_place (lists.ahead key e at_key) first first_then lists.heads part.head part.kept_head part.other_heads;
  once = λ j k x at_j at_k. lists.once j k x (removed.only j x at_j).0 (removed.only k x at_k).0;
}
