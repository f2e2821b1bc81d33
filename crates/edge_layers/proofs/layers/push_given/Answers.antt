use Rattle.std.proofs.Common.{[], ◌∷◌, ◌++◌, sym, ap, ◌∙◌}
use Rattle.edge_layers.specs.Types.{Edge}
use Rattle.edge_layers.proofs.EnterLaws.{pushed-none, pushed-one}
use Rattle.edge_layers.proofs.layers.push_given.Goals as goal

pub returns-then-not-has_label-clause-ok : goal.returns-then-not-has_label-clause-ok
returns-then-not-has_label-clause-ok c = pushed-none c.args.given c.args.edge.now c.args.buf.now (sym c.has_label.ensures ∙ c.if-not-has_label.true)

pub returns-clause-ok : goal.returns-clause-ok
returns-clause-ok c =
    c.in_ok-push.ensures.ok ∙ ap (λ (e : Edge). c.args.buf.now ++ e ∷ []) c.turned.ensures
    ∙ pushed-one c.args.given c.args.edge.now c.args.buf.now (sym c.has_label.ensures ∙ c.if-not-has_label.false)
