-- Walks that put a whole list behind others.
use Rattle.std.proofs.Common.{◌≡◌, ℕ, ◌+◌, ◌<◌, Less, Option, Some, None, List, [], ◌∷◌, ◌++◌, get_or, Contains, sym, ap, ◌∙◌, inl, inr, subst, arith}
use Rattle.std.proofs.lemmas.List.{append_assoc, append-nil}
use Rattle.std.proofs.lemmas.List.Elements.{Contains-push, Contains-push_cases, Contains-append_left, Contains-get_or}
use Rattle.std.proofs.lemmas.List.Quantifiers.{all_pairs_push}
use Rattle.slab.specs.Slab.{Slab}
use Rattle.edge_lists.specs.Types.{Oid, Edge, Side, After, EdgeRecord, ObjectRecord}
use Rattle.near_links.specs.Links.{IsNearest}
use Rattle.edge_lists.specs.Edges.{owner_of, side_cmp, Precedes}
use Rattle.edge_lists.specs.Records.{link_at, LiesAt, HasEdge}
use Rattle.edge_lists.specs.Chains.{next_of, StandsAt, AreChained}
use Rattle.edge_lists.specs.Runs.{ListsRun, IsOn, IsUpTo, ListsUpTo}
use Rattle.near_links.proofs.NearLaws.{IsOrder}
use Rattle.near_links.proofs.LinkLaws.{leads_on}
use Rattle.edge_lists.proofs.EdgeLaws.{side_order}
use Rattle.edge_lists.proofs.WalkLaws.{stands_once, behind, behind_place, fewer_behind}
use Rattle.edge_lists.proofs.ChangeLaws.{none_waits}

pub lists_none : (side : Side) (records : Slab EdgeRecord) (owner : Oid) (old : List Edge) → ListsUpTo side records owner None old old
lists_none side records owner old = record {
  run = [];
  is = sym (append-nil old);
  on = tt;
  ascends = λ i j d lt len. absurd (omega (arith, len));
  exact = λ edge. (λ at. absurd (omega (arith, at.1)), λ both. absurd both.1);
}

-- how many records lie from what follows on
abbrev pub ahead_of : Side → Slab EdgeRecord → Option ℕ → ℕ
ahead_of side records None = 0
ahead_of side records (Some key) = behind_place side records (Some key) + 1

module _ (side : Side) (objects : List ObjectRecord) (records : Slab EdgeRecord) (owner : Oid) (chained : AreChained side objects records []) where
  order : IsOrder (owner_of side) (Precedes side)
  order = side_order side

  once : (k : ℕ) (x y : Edge) → StandsAt records [] k x → StandsAt records [] k y → x ≡ y
  once = stands_once records []

  -- what follows a place in the list
  pub record IsNext (place : Option ℕ) (next : ℕ) (e : Edge) : Type 0 where
    pub stands : StandsAt records [] next e
    pub owned : owner_of side e ≡ owner
    pub behind : (x : Edge) → IsUpTo side records place x → Precedes side x e
    pub none : (x : Edge) → HasEdge records x → Precedes side x e → IsUpTo side records place x

  pub next_on : (place : Option ℕ) → IsOn side records owner place → (next : ℕ) → next_of side objects records owner place ≡ Some next
      → (e : Edge) → LiesAt records next e → IsNext place next e
  next_on None on next is e lies =
      let near = subst (λ (l : Option ℕ). IsNearest (StandsAt records []) (λ y. owner_of side y ≡ owner) (Precedes side) l) is (chained.heads owner) in
      let same : near.0 ≡ e = once next near.0 e near.1 (lies, none_waits next) in
      record {
        stands = (lies, none_waits next);
        owned = subst (λ (x : Edge). owner_of side x ≡ owner) same near.2;
        behind = λ x none. absurd none;
        none = λ x has less.
            elim (near.3 has.0 x (has.1, none_waits has.0) (less.0 ∙ subst (λ (y : Edge). owner_of side y ≡ owner) same near.2)) [
              | inl here ↦
                  let at_next = subst (λ (n : ℕ). StandsAt records [] n x) here (has.1, none_waits has.0) in
                  absurd (order.never e (subst (λ (y : Edge). Precedes side y e) (once next x e at_next (lies, none_waits next)) less))
              | inr more ↦ absurd (order.never e (order.trans e x e (subst (λ (y : Edge). Precedes side y x) same more) less))
            ];
      }
  next_on (Some place) on next is e lies =
      let near = subst (λ (l : Option ℕ). IsNearest (StandsAt records []) (λ y. Precedes side on.0 y) (Precedes side) l) is (chained.ahead place on.0 on.1) in
      let same : near.0 ≡ e = once next near.0 e near.1 (lies, none_waits next) in
      let less_e : Precedes side on.0 e = subst (λ (x : Edge). Precedes side on.0 x) same near.2 in
      record {
        stands = (lies, none_waits next);
        owned = sym less_e.0 ∙ on.2;
        behind = λ x up.
            let last : up.0 ≡ on.0 = once place up.0 on.0 up.1 on.1 in
            elim up.2 [
              | inl equal ↦ subst (λ (y : Edge). Precedes side y e) (sym (equal ∙ last)) less_e
              | inr less ↦ order.trans x on.0 e (subst (λ (y : Edge). Precedes side x y) last less) less_e
            ];
        none = λ x has less. (
          on.0,
          on.1,
          elim (order.total x on.0 (less.0 ∙ sym less_e.0)) [
            | inl before ↦ inr before
            | inr others ↦ elim others [
              | inl equal ↦ inl equal
              | inr behind ↦ absurd (elim (near.3 has.0 x (has.1, none_waits has.0) behind) [
                | inl here ↦
                    let at_next = subst (λ (n : ℕ). StandsAt records [] n x) here (has.1, none_waits has.0) in
                    order.never e (subst (λ (y : Edge). Precedes side y e) (once next x e at_next (lies, none_waits next)) less)
                | inr more ↦ order.never e (order.trans e x e (subst (λ (y : Edge). Precedes side y x) same more) less)
              ])
            ]
          ],
        );
      }

  pub lists_more : (place : Option ℕ) (old new more : List Edge) → ListsUpTo side records owner place old new → (next : ℕ) → next_of side objects records owner place ≡ Some next
      → (e : Edge) → LiesAt records next e → more ≡ new ++ e ∷ [] → ListsUpTo side records owner (Some next) old more
  lists_more place old new more lists next is e lies pushed =
      let at = next_on place lists.on next is e lies in
      record {
        run = lists.run ++ e ∷ [];
        is = pushed ∙ ap (λ xs. xs ++ e ∷ []) lists.is ∙ append_assoc old lists.run (e ∷ []);
        on = (e, at.stands, at.owned);
        ascends = all_pairs_push (λ a b. side_cmp side a b ≡ Less) lists.run e lists.ascends
            (λ k d lt. (at.behind (get_or lists.run k d) ((lists.exact (get_or lists.run k d)).0 (Contains-get_or lists.run k d lt)).1).1);
        exact = λ x. (
          λ in_run. elim (Contains-push_cases lists.run e x in_run) [
            | inl old_one ↦
                let both = (lists.exact x).0 old_one in
                (both.0, (e, at.stands, inr (at.behind x both.1)))
            | inr same ↦ ((next, lies ∙ ap Some same), (e, at.stands, inl (sym same)))
          ],
          λ both.
              let last : both.1.0 ≡ e = once next both.1.0 e both.1.1 at.stands in
              elim both.1.2 [
                | inl equal ↦ subst (λ (y : Edge). Contains (lists.run ++ e ∷ []) y) (sym (equal ∙ last)) (Contains-push lists.run e)
                | inr less ↦ Contains-append_left lists.run (e ∷ []) x ((lists.exact x).1 (both.0, at.none x both.0 (subst (λ (y : Edge). Precedes side x y) last less)))
              ],
        );
      }

  pub up_to_all : (place : Option ℕ) → IsOn side records owner place → next_of side objects records owner place ≡ None → (x : Edge)
      → (IsUpTo side records place x → owner_of side x ≡ owner) × (HasEdge records x → owner_of side x ≡ owner → IsUpTo side records place x)
  up_to_all None on is x = (
    λ none. absurd none,
    λ has own.
        let nothing = subst (λ (l : Option ℕ). IsNearest (StandsAt records []) (λ y. owner_of side y ≡ owner) (Precedes side) l) is (chained.heads owner) in
        absurd (nothing has.0 x (has.1, none_waits has.0) own),
  )
  up_to_all (Some place) on is x = (
    λ up.
        let last : up.0 ≡ on.0 = once place up.0 on.0 up.1 on.1 in
        let owned : owner_of side up.0 ≡ owner = subst (λ (y : Edge). owner_of side y ≡ owner) (sym last) on.2 in
        elim up.2 [ inl equal ↦ ap (owner_of side) equal ∙ owned | inr less ↦ less.0 ∙ owned ],
    λ has own.
        let nothing = subst (λ (l : Option ℕ). IsNearest (StandsAt records []) (λ y. Precedes side on.0 y) (Precedes side) l) is (chained.ahead place on.0 on.1) in (
          on.0,
          on.1,
          elim (order.total x on.0 (own ∙ sym on.2)) [
            | inl before ↦ inr before
            | inr others ↦ elim others [ inl equal ↦ inl equal | inr behind ↦ absurd (nothing has.0 x (has.1, none_waits has.0) behind) ]
          ],
        ),
  )

  pub lists_all : (place : Option ℕ) (old new : List Edge) → ListsUpTo side records owner place old new → next_of side objects records owner place ≡ None
      → ListsRun side records owner old new
  lists_all place old new lists is = record {
    run = lists.run;
    is = lists.is;
    ascends = lists.ascends;
    exact = λ x. (
      λ at. let both = (lists.exact x).0 at in (both.0, (up_to_all place lists.on is x).0 both.1),
      λ both. (lists.exact x).1 (both.0, (up_to_all place lists.on is x).1 both.0 both.1),
    );
  }

  -- a record lies at what follows a place in the list
  pub next_lies : (place : Option ℕ) → IsOn side records owner place → (next : ℕ) → next_of side objects records owner place ≡ Some next → (e : Edge) × LiesAt records next e
  next_lies None on next is =
      let near = subst (λ (l : Option ℕ). IsNearest (StandsAt records []) (λ y. owner_of side y ≡ owner) (Precedes side) l) is (chained.heads owner) in
      (near.0, near.1.0)
  next_lies (Some place) on next is =
      let near = subst (λ (l : Option ℕ). IsNearest (StandsAt records []) (λ y. Precedes side on.0 y) (Precedes side) l) is (chained.ahead place on.0 on.1) in
      (near.0, near.1.0)

  -- how far a walk has come falls
  pub fewer_ahead : (place : Option ℕ) → IsOn side records owner place → (key : ℕ) → next_of side objects records owner place ≡ Some key → (e : Edge) → LiesAt records key e
      → ahead_of side records (link_at side After records key) < ahead_of side records (Some key)
  fewer_ahead place on key is e lies = elim (leads_on (link_at side After records key)) [
    | inl none ↦
        let last : ahead_of side records (link_at side After records key) ≡ 0 = ap (ahead_of side records) none in
        omega (arith, last)
    | inr some ↦
        let at = next_on place on key is e lies in
        let near = subst (λ (l : Option ℕ). IsNearest (StandsAt records []) (λ y. Precedes side e y) (Precedes side) l) some.1 (chained.ahead key e at.stands) in
        let there : ahead_of side records (link_at side After records key) ≡ behind side records (Some near.0) + 1
        = ap (ahead_of side records) some.1 ∙ ap (λ slot. behind side records slot + 1) near.1.0 in
        let here : behind_place side records (Some key) ≡ behind side records (Some e) = ap (behind side records) lies in
        omega (arith, there, here, fewer_behind side records e near.0 some.0 near.1.0 near.2.1)
  ]
