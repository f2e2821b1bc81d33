use Rattle.std.proofs.Common.{ℕ, inl, inr, true≢false, IsTrue, Bor, List, refl, sym, ◌∙◌, subst}
use Rattle.live_views.proofs.ConcernLaws.{AsksNames, AsksEdges, last_asked, asks_whether_concerned}
use Rattle.live_views.proofs.looks.Looks.are_touched.Goals as goal

pub returns-then-some_turned : goal.returns-then-some_turned
returns-then-some_turned c = λ query labels delta of by.
    let touched = c.args.touched.now in
    let names = subst (λ (l : List (List ℕ)). AsksNames l touched.delta.now) c.as_slice.ensures (c.some_turned.ensures.0 c.if-some_turned.true) in
    (λ _. (asks_whether_concerned query labels delta c.args.self.now touched of by).0 (inl names), λ _. refl)

pub returns-then-takes_some : goal.returns-then-takes_some
returns-then-takes_some c = λ query labels delta of by.
    let touched = c.args.touched.now in
    let edges = subst (λ (l : List (Bor (List ℕ))). AsksEdges c.args.self.now.steps touched.edges l) c.as_slice-2.ensures.value
    (c.takes_some.ensures.0 c.if-takes_some.true) in
    (λ _. (asks_whether_concerned query labels delta c.args.self.now touched of by).0 (inr (inl edges)), λ _. refl)

pub returns-then-self : goal.returns-then-self
returns-then-self c = λ query labels delta of by.
    let looks = c.args.self.now in
    let touched = c.args.touched.now in
    let asks = asks_whether_concerned query labels delta looks touched of by in (
      λ is. asks.0 (inr (inr (c.if-self.true, is))),
      λ concerned. (last_asked (AsksNames looks.starts touched.delta.now) (AsksEdges looks.steps touched.edges touched.texts.items)
          (IsTrue looks.compares × IsTrue touched.values) (asks.1 concerned)
          (λ names. true≢false (sym (c.some_turned.ensures.1 (subst (λ (l : List (List ℕ)). AsksNames l touched.delta.now) (sym c.as_slice.ensures) names)) ∙ c.if-some_turned.false))
          (λ edges. true≢false (sym (c.takes_some.ensures.1 (subst (λ (l : List (Bor (List ℕ))). AsksEdges looks.steps touched.edges l) (sym c.as_slice-2.ensures.value) edges)) ∙ c.if-takes_some.false))).1,
    )

pub returns-else-self : goal.returns-else-self
returns-else-self c = λ query labels delta of by.
    let looks = c.args.self.now in
    let touched = c.args.touched.now in
    let asks = asks_whether_concerned query labels delta looks touched of by in (
      λ is. absurd (true≢false (sym is ∙ c.if-self.false)),
      λ concerned. (last_asked (AsksNames looks.starts touched.delta.now) (AsksEdges looks.steps touched.edges touched.texts.items)
          (IsTrue looks.compares × IsTrue touched.values) (asks.1 concerned)
          (λ names. true≢false (sym (c.some_turned.ensures.1 (subst (λ (l : List (List ℕ)). AsksNames l touched.delta.now) (sym c.as_slice.ensures) names)) ∙ c.if-some_turned.false))
          (λ edges. true≢false (sym (c.takes_some.ensures.1 (subst (λ (l : List (Bor (List ℕ))). AsksEdges looks.steps touched.edges l) (sym c.as_slice-2.ensures.value) edges)) ∙ c.if-takes_some.false))).0,
    )
