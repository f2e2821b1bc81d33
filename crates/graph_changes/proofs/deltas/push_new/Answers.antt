use Rattle.std.proofs.Common.{sym, ◌∙◌, inl, inr, refl}
use Rattle.std.proofs.lemmas.Bool.{true≢false}
use Rattle.graph_changes.proofs.deltas.push_new.Goals as goal

pub returns-then-has_value : goal.returns-then-has_value
returns-then-has_value c = inl (c.has_value.ensures.0 c.if-has_value.true, refl)

pub returns : goal.returns
returns c = inr (λ at. true≢false (sym (c.has_value.ensures.1 at) ∙ c.if-has_value.false), c.in_ok-push.ensures.ok)
