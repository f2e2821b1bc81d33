use Rattle.std.proofs.Common.{inl, inr, sym, true≢false, ◌∙◌}
use Rattle.value_changes.proofs.pairs.is_moving.Goals as goal

pub returns-then-not-is_among-clause-yes : goal.returns-then-not-is_among-clause-yes
returns-then-not-is_among-clause-yes c moves =
    inr (λ there. true≢false (sym (c.is_among.ensures.1 there) ∙ c.if-not-is_among.true))

pub returns-then-not-is_among-clause-no : goal.returns-then-not-is_among-clause-no
returns-then-not-is_among-clause-no c rests = absurd (true≢false rests)

pub returns-clause-yes : goal.returns-clause-yes
returns-clause-yes c moves = inl (c.is_among-2.ensures.0 moves)

pub returns-clause-no : goal.returns-clause-no
returns-clause-no c rests = (
  λ is_given. true≢false (sym (c.is_among-2.ensures.1 is_given) ∙ rests),
  c.is_among.ensures.0 c.if-not-is_among.false,
)
