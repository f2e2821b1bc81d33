use Rattle.std.proofs.Common.{◌∷◌, [], ◌++◌, inl, inr, refl, ap, ◌∙◌}
use Rattle.graph_changes.specs.Types.{Value}
use Rattle.graph_changes.proofs.deltas.push_value.Goals as goal

pub returns-in_default : goal.returns-in_default
returns-in_default c = inr (c.in_default.ensures.none, refl)

pub returns : goal.returns
returns c = inl (c.in-Some.value.now, c.in-Some.ensures.found, c.in_ok-push.ensures.ok ∙ ap (λ (v : Value). c.args.values.now ++ (c.args.oid, v) ∷ []) c.in_ok-try_copy.ensures)
