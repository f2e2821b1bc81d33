-- Lists that are linked one way: what follows a place, where the place of an item is, and the run of an owner's items.
use Rattle.std.proofs.Common.{◌≡◌, ◌≢◌, ◌⊎◌, ◌↔◌, ℕ, ◌<◌, Option, Some, None, List, [], ◌∷◌, ◌++◌, length, get_or, Contains, AllPairs, refl, sym, ap, ◌∙◌, inl, inr, subst, arith}
use Rattle.std.proofs.lemmas.List.Elements.{Contains-push, Contains-push_cases, Contains-append_left, Contains-get_or}
use Rattle.std.proofs.lemmas.List.Quantifiers.{all_pairs_push}
use Rattle.near_links.specs.Links.{IsNearest, AreAtKeys, AreAhead, IsBefore, IsPlaceOf, IsOn, IsUpTo, IsRunTo, IsRun, follows}
use Rattle.near_links.proofs.NearLaws.{IsOrder, IsFound, found}

pub some_same : {T : Type 0} {a b : T} → ◌≡◌ {A = Option T} (Some a) (Some b) → a ≡ b
some_same {T} {a} {b} same = cc

pub none_some : {T : Type 0} {a : T} → ◌≡◌ {A = Option T} None (Some a) → ⊥
none_some {T} {a} same = absurd (cc)

-- what follows a place isn't before the item, or nothing follows
abbrev pub IsPast : {X : Type 0} → (ℕ → X → Type 0) → (X → X → Type 0) → X → Option ℕ → Type 0
IsPast at R item None = Unit {0}
IsPast {X} at R item (Some next) = (other : X) → at next other → ¬ R other item

-- the run of nothing
pub run_none : {X O : Type 0} (owner : X → O) (R : X → X → Type 0) (at : ℕ → X → Type 0) (o : O) → IsRunTo owner R at o None []
run_none owner R at o = record {
  on = tt;
  ascends = λ i j d lt len. absurd (omega (arith, len));
  exact = λ item. (λ none. absurd (omega (arith, none.1)), λ both. absurd both.1);
}

module _ {X O : Type 0} (owner : X → O) (R : X → X → Type 0) (order : IsOrder owner R) (at : ℕ → X → Type 0) (one : AreAtKeys at)
    (after : ℕ → Option ℕ) (first : O → Option ℕ) (lists : AreAhead owner R at after first) where
  -- what follows a place from which the item is to be found stands in the item's list
  pub next_stands : (item : X) (place : Option ℕ) → IsBefore at R item place → (next : ℕ) → follows after first (owner item) place ≡ Some next
      → (other : X) × at next other × (owner other ≡ owner item)
  next_stands item None start next is =
      let near = subst (λ (l : Option ℕ). IsNearest at (λ y. owner y ≡ owner item) R l) is (lists.heads (owner item)) in
      (near.0, near.1, near.2)
  next_stands item (Some place) start next is =
      let near = subst (λ (l : Option ℕ). IsNearest at (λ y. R start.0 y) R l) is (lists.ahead place start.0 start.1) in
      (near.0, near.1, sym (order.owned start.0 near.0 near.2) ∙ order.owned start.0 item start.2)

  -- the place is right where what follows it isn't before the item
  pub place_here : (item : X) (place next : Option ℕ) → IsBefore at R item place → follows after first (owner item) place ≡ next
      → IsPast at R item next → IsPlaceOf at R item place
  place_here item None next start is past = λ key other lies less.
      let near = found at (λ y. owner y ≡ owner item) R (first (owner item)) (lists.heads (owner item)) key other lies (order.owned other item less) in
      let not_past = subst (λ (l : Option ℕ). IsPast at R item l) (sym is ∙ near.is) past in
      not_past near.near near.lies (elim near.reached [
        | inl here ↦ subst (λ (x : X). R x item) (one near.first other near.near (subst (λ (n : ℕ). at n other) here lies) near.lies) less
        | inr more ↦ order.trans near.near other item more less
      ])
  place_here item (Some place) next start is past = (
    start.0,
    start.1,
    start.2,
    λ key other lies less.
        elim (order.total other start.0 (order.owned other item less ∙ sym (order.owned start.0 item start.2))) [
          | inl before ↦ inr before
          | inr others ↦ elim others [
            | inl equal ↦ inl (lists.once key place start.0 (subst (λ (x : X). at key x) equal lies) start.1)
            | inr behind ↦
                let near = found at (λ y. R start.0 y) R (after place) (lists.ahead place start.0 start.1) key other lies behind in
                let not_past = subst (λ (l : Option ℕ). IsPast at R item l) (sym is ∙ near.is) past in
                absurd (not_past near.near near.lies (elim near.reached [
                  | inl here ↦ subst (λ (x : X). R x item) (one near.first other near.near (subst (λ (n : ℕ). at n other) here lies) near.lies) less
                  | inr more ↦ order.trans near.near other item more less
                ]))
          ]
        ],
  )

  -- an item that follows a place comes behind the item of the place
  pub nearer : (item : X) (place : Option ℕ) → IsBefore at R item place → (next : ℕ) → follows after first (owner item) place ≡ Some next
      → (e : X) → at next e → (p : ℕ) → place ≡ Some p → (x : X) × at p x × R x e
  nearer item None start next is e lies p here = absurd (none_some here)
  nearer item (Some place) start next is e lies p here =
      let near = subst (λ (l : Option ℕ). IsNearest at (λ y. R start.0 y) R l) is (lists.ahead place start.0 start.1) in
      let same : near.0 ≡ e = one next near.0 e near.1 lies in
      (start.0, subst (λ (n : ℕ). at n start.0) (some_same here) start.1, subst (λ (x : X). R start.0 x) same near.2)

  -- what follows a place is the nearest behind the item
  pub next_nearest : (item : X) → ((j : ℕ) (x : X) → at j x → x ≢ item) → (place : Option ℕ) → IsPlaceOf at R item place
      → IsNearest at (λ y. R item y) R (follows after first (owner item) place)
  next_nearest item fresh None none = go (first (owner item)) (lists.heads (owner item))
    where
      go : (head : Option ℕ) → IsNearest at (λ y. owner y ≡ owner item) R head → IsNearest at (λ y. R item y) R head
      go None nothing = λ key other lies less. nothing key other lies (sym (order.owned item other less))
      go (Some head) near = (
        near.0,
        near.1,
        elim (order.total near.0 item near.2) [
          | inl before ↦ absurd (none head near.0 near.1 before)
          | inr others ↦ elim others [ inl equal ↦ absurd (fresh head near.0 near.1 equal) | inr behind ↦ behind ]
        ],
        λ key other lies less. near.3 key other lies (sym (order.owned item other less)),
      )
  next_nearest item fresh (Some place) here = go (after place) (lists.ahead place here.0 here.1)
    where
      go : (next : Option ℕ) → IsNearest at (λ y. R here.0 y) R next → IsNearest at (λ y. R item y) R next
      go None nothing = λ key other lies less. nothing key other lies (order.trans here.0 item other here.2 less)
      go (Some next) near = (
        near.0,
        near.1,
        elim (order.total near.0 item (sym (order.owned here.0 near.0 near.2) ∙ order.owned here.0 item here.2)) [
          | inl before ↦ absurd (elim (here.3 next near.0 near.1 before) [
            | inl same ↦ order.never here.0 (subst (λ (x : X). R here.0 x) (one place near.0 here.0 (subst (λ (n : ℕ). at n near.0) same near.1) here.1) near.2)
            | inr back ↦ order.never here.0 (order.trans here.0 near.0 here.0 near.2 back)
          ])
          | inr others ↦ elim others [ inl equal ↦ absurd (fresh next near.0 near.1 equal) | inr behind ↦ behind ]
        ],
        λ key other lies less. near.3 key other lies (order.trans here.0 item other here.2 less),
      )

  -- behind the place of an item that is there comes the item
  pub next_is : (item : X) (key : ℕ) → at key item → (place : Option ℕ) → IsPlaceOf at R item place → follows after first (owner item) place ≡ Some key
  next_is item key lies None none =
      let near = found at (λ y. owner y ≡ owner item) R (first (owner item)) (lists.heads (owner item)) key item lies refl in
      elim near.reached [
        | inl here ↦ near.is ∙ ap Some (sym here)
        | inr less ↦ absurd (none near.first near.near near.lies less)
      ]
  next_is item key lies (Some place) here =
      let near = found at (λ y. R here.0 y) R (after place) (lists.ahead place here.0 here.1) key item lies here.2 in
      elim near.reached [
        | inl same ↦ near.is ∙ ap Some (sym same)
        | inr less ↦ absurd (elim (here.3 near.first near.near near.lies less) [
          | inl same ↦ order.never here.0 (subst (λ (x : X). R here.0 x) (one place near.near here.0 (subst (λ (n : ℕ). at n near.near) same near.lies) here.1) near.holds)
          | inr back ↦ order.never here.0 (order.trans here.0 near.near here.0 near.holds back)
        ])
      ]

  -- ---- the run of an owner's items
  -- what follows a place in the list
  pub record IsNext (o : O) (place : Option ℕ) (next : ℕ) (e : X) : Type 0 where
    pub owned : owner e ≡ o
    pub behind : (x : X) → IsUpTo at R place x → R x e
    pub none : (x : X) → ((key : ℕ) × at key x) → R x e → IsUpTo at R place x

  pub next_on : (o : O) (place : Option ℕ) → IsOn owner at o place → (next : ℕ) → follows after first o place ≡ Some next
      → (e : X) → at next e → IsNext o place next e
  next_on o None on next is e lies =
      let near = subst (λ (l : Option ℕ). IsNearest at (λ y. owner y ≡ o) R l) is (lists.heads o) in
      let same : near.0 ≡ e = one next near.0 e near.1 lies in
      record {
        owned = subst (λ (x : X). owner x ≡ o) same near.2;
        behind = λ x none. absurd none;
        none = λ x has less.
            elim (near.3 has.0 x has.1 (order.owned x e less ∙ subst (λ (y : X). owner y ≡ o) same near.2)) [
              | inl here ↦
                  let at_next = subst (λ (n : ℕ). at n x) here has.1 in
                  absurd (order.never e (subst (λ (y : X). R y e) (one next x e at_next lies) less))
              | inr more ↦ absurd (order.never e (order.trans e x e (subst (λ (y : X). R y x) same more) less))
            ];
      }
  next_on o (Some place) on next is e lies =
      let near = subst (λ (l : Option ℕ). IsNearest at (λ y. R on.0 y) R l) is (lists.ahead place on.0 on.1) in
      let same : near.0 ≡ e = one next near.0 e near.1 lies in
      let less_e : R on.0 e = subst (λ (x : X). R on.0 x) same near.2 in
      record {
        owned = sym (order.owned on.0 e less_e) ∙ on.2;
        behind = λ x up.
            let last : up.0 ≡ on.0 = one place up.0 on.0 up.1 on.1 in
            elim up.2 [
              | inl equal ↦ subst (λ (y : X). R y e) (sym (equal ∙ last)) less_e
              | inr less ↦ order.trans x on.0 e (subst (λ (y : X). R x y) last less) less_e
            ];
        none = λ x has less. (
          on.0,
          on.1,
          elim (order.total x on.0 (order.owned x e less ∙ sym (order.owned on.0 e less_e))) [
            | inl before ↦ inr before
            | inr others ↦ elim others [
              | inl equal ↦ inl equal
              | inr behind ↦ absurd (elim (near.3 has.0 x has.1 behind) [
                | inl here ↦
                    let at_next = subst (λ (n : ℕ). at n x) here has.1 in
                    order.never e (subst (λ (y : X). R y e) (one next x e at_next lies) less)
                | inr more ↦ order.never e (order.trans e x e (subst (λ (y : X). R y x) same more) less)
              ])
            ]
          ],
        );
      }

  -- the run goes on with what follows
  pub run_more : (o : O) (place : Option ℕ) (run : List X) → IsRunTo owner R at o place run → (next : ℕ) → follows after first o place ≡ Some next
      → (e : X) → at next e → IsRunTo owner R at o (Some next) (run ++ e ∷ [])
  run_more o place run so next is e lies =
      let then = next_on o place so.on next is e lies in
      record {
        on = (e, lies, then.owned);
        ascends = all_pairs_push R run e so.ascends
            (λ k d lt. then.behind (get_or run k d) ((so.exact (get_or run k d)).0 (Contains-get_or run k d lt)).1);
        exact = λ x. (
          λ in_run. elim (Contains-push_cases run e x in_run) [
            | inl earlier ↦
                let both = (so.exact x).0 earlier in
                (both.0, (e, lies, inr (then.behind x both.1)))
            | inr same ↦ ((next, subst (λ (y : X). at next y) same lies), (e, lies, inl (sym same)))
          ],
          λ both.
              let last : both.1.0 ≡ e = one next both.1.0 e both.1.1 lies in
              elim both.1.2 [
                | inl equal ↦ subst (λ (y : X). Contains (run ++ e ∷ []) y) (sym (equal ∙ last)) (Contains-push run e)
                | inr less ↦ Contains-append_left run (e ∷ []) x ((so.exact x).1 (both.0, then.none x both.0 (subst (λ (y : X). R x y) last less)))
              ],
        );
      }

  -- where nothing follows the place the run is whole
  up_to_all : (o : O) (place : Option ℕ) → IsOn owner at o place → follows after first o place ≡ None → (x : X)
      → (IsUpTo at R place x → owner x ≡ o) × (((key : ℕ) × at key x) → owner x ≡ o → IsUpTo at R place x)
  up_to_all o None on is x = (
    λ none. absurd none,
    λ has own.
        let nothing = subst (λ (l : Option ℕ). IsNearest at (λ y. owner y ≡ o) R l) is (lists.heads o) in
        absurd (nothing has.0 x has.1 own),
  )
  up_to_all o (Some place) on is x = (
    λ up.
        let last : up.0 ≡ on.0 = one place up.0 on.0 up.1 on.1 in
        let owned : owner up.0 ≡ o = subst (λ (y : X). owner y ≡ o) (sym last) on.2 in
        elim up.2 [ inl equal ↦ ap owner equal ∙ owned | inr less ↦ order.owned x up.0 less ∙ owned ],
    λ has own.
        let nothing = subst (λ (l : Option ℕ). IsNearest at (λ y. R on.0 y) R l) is (lists.ahead place on.0 on.1) in (
          on.0,
          on.1,
          elim (order.total x on.0 (own ∙ sym on.2)) [
            | inl before ↦ inr before
            | inr others ↦ elim others [ inl equal ↦ inl equal | inr behind ↦ absurd (nothing has.0 x has.1 behind) ]
          ],
        ),
  )

  pub run_all : (o : O) (place : Option ℕ) (run : List X) → IsRunTo owner R at o place run → follows after first o place ≡ None → IsRun owner R at o run
  run_all o place run so is = record {
    ascends = so.ascends;
    exact = λ x. (
      λ in_run. (let both = (so.exact x).0 in_run in (both.0, (up_to_all o place so.on is x).0 both.1)),
      λ both. (so.exact x).1 (both.0, (up_to_all o place so.on is x).1 both.0 both.1),
    );
  }

  -- what follows a place in the list comes behind the item of the place
  pub place_lies : (o : O) (place : Option ℕ) → IsOn owner at o place → (next : ℕ) → follows after first o place ≡ Some next → (e : X) → at next e
      → (p : ℕ) → place ≡ Some p → (x : X) × at p x × R x e
  place_lies o None on next is e lies p here = absurd (none_some here)
  place_lies o (Some place) on next is e lies p here =
      let behind = (next_on o (Some place) on next is e lies).behind on.0 (on.0, on.1, inl refl) in
      (on.0, subst (λ (n : ℕ). at n on.0) (some_same here) on.1, behind)
