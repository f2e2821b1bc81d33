use Rattle.std.proofs.Common.{refl, sym, inl, inr, true≢false, ◌∙◌}
use Rattle.value_changes.proofs.valued.is_old_valued.Goals as goal

pub returns-then-not-is_live : goal.returns-then-not-is_live
returns-then-not-is_live g c = (
  λ yes. absurd (true≢false (sym yes)),
  λ old. absurd (true≢false (sym (c.is_live.ensures.1 old.0) ∙ c.if-not-is_live.true)),
)

pub returns-then-has_atom : goal.returns-then-has_atom
returns-then-has_atom g c = (
  λ yes. (c.is_live.ensures.0 c.if-not-is_live.false, inl (c.has_atom.ensures.0 c.if-has_atom.true)),
  λ old. refl,
)

pub returns : goal.returns
returns g c = (
  λ yes. (c.is_live.ensures.0 c.if-not-is_live.false, inr (c.has_atom-2.ensures.0 yes)),
  λ old. elim old.1 [
    | inl was ↦ absurd (true≢false (sym (c.has_atom.ensures.1 was) ∙ c.if-has_atom.false))
    | inr is ↦ c.has_atom-2.ensures.1 is
  ],
)
