use Rattle.std.proofs.Common.{◌≡◌, ℕ, [], inl, inr, List, Contains, sym, subst}
use Rattle.block_haste.proofs.HasteLaws.{same_event, AreEvents-same}
use Rattle.block_haste.specs.inside.Recounting.{edge_at}
use Rattle.block_haste.proofs.hastening.entered.Goals as goal

pub returns-clause-counted : goal.returns-clause-counted
returns-clause-counted c tags are reached =
    c.in_ok-recounted.ensures.counted tags are (λ place within. elim (reached place within) [
      | inl same ↦ inl same
      | inr at ↦ inr (subst (λ (l : List ℕ). Contains l place) (sym c.as_slice.ensures.value)
          (c.in_ok-places.ensures.every (edge_at c.args.edges.now place).0 place at.0 at.1))
    ])

pub returns-clause-events : goal.returns-clause-events
returns-clause-events c rows tags of_rows are reached =
    AreEvents-same rows tags c.args.numbers.now c.in_ok-recounted.recounted.events c.sort_set.new.self (c.sort_set.ensures.members same_event)
    (c.in_ok-recounted.ensures.events rows tags of_rows are (λ place within. elim (reached place within) [
      | inl same ↦ inl same
      | inr at ↦ inr (subst (λ (l : List ℕ). Contains l place) (sym c.as_slice.ensures.value)
          (c.in_ok-places.ensures.every (edge_at c.args.edges.now place).0 place at.0 at.1))
    ]))
