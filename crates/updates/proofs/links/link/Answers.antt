use Rattle.std.proofs.Common.{◌≡◌, ◌+◌, ◌<◌, ◌≤◌, [], ◌∷◌, Bool, true, false, Option, IfNone, IfSome, length, refl, sym, ap, subst, ◌∙◌, arith}
use Rattle.oem_labels.specs.Labels.{first_uses}
use Rattle.updates.specs.Types.{LABELS}
use Rattle.updates.specs.declared.links.OwnLabel.{OwnLabel}
use Rattle.updates.specs.Effects.{linking}
use Rattle.updates.specs.inside.RowTests.{any_atomic_link}
use Rattle.updates.proofs.FormLaws.{link_adds, link_adds_none, gives_nothing, form_atom, form_clear, form_full}
use Rattle.updates.proofs.links.link.Goals as goal

pub returns-then-any_atomic_link-clause-err : goal.returns-then-any_atomic_link-clause-err
returns-then-any_atomic_link-clause-err c =
    let graph = c.args.graph.now.graph in
    let some = sym (c.any_atomic_link.ensures ∙ ap (any_atomic_link graph.objects) c.as_slice.ensures) ∙ c.if-any_atomic_link.true in
    form_atom c.args.labels.now graph (linking c.args.labels.now c.args.label.now c.args.rows.now)
    (link_adds c.args.labels.now graph c.args.label.now c.args.rows.now some)

pub returns-in_default-clause-err : goal.returns-in_default-clause-err
returns-in_default-clause-err c =
    let graph = c.args.graph.now.graph in
    let table = c.args.labels.now in
    let changes = linking table c.args.label.now c.args.rows.now in
    let none = sym (c.any_atomic_link.ensures ∙ ap (any_atomic_link graph.objects) c.as_slice.ensures) ∙ c.if-any_atomic_link.false in
    let full = subst (λ (found : Option OwnLabel). IfNone found (LABELS < length table + length (first_uses table (c.args.label.now ∷ []))))
    c.in_default.is c.in_ok-own.ensures.none in
    form_full table graph changes c.next-next.ensures.indexable.ordered.next_numbered.1 refl
    (link_adds_none table graph c.args.label.now c.args.rows.now none) (gives_nothing graph changes refl) full

pub returns-clause-ok : goal.returns-clause-ok
returns-clause-ok c =
    let graph = c.args.graph.now.graph in
    let table = c.args.labels.now in
    let changes = linking table c.args.label.now c.args.rows.now in
    let none = sym (c.any_atomic_link.ensures ∙ ap (any_atomic_link graph.objects) c.as_slice.ensures) ∙ c.if-any_atomic_link.false in
    let few = subst (λ (found : Option OwnLabel). IfSome found (λ own. length table + length own.texts ≤ LABELS)) c.in-Some.is c.in_ok-own.ensures.few in
    let texts = subst (λ (found : Option OwnLabel). IfSome found (λ own. own.texts ≡ first_uses table (c.args.label.now ∷ []))) c.in-Some.is
    c.in_ok-own.ensures.texts in
    let count = ap length texts in
    form_clear table graph changes c.next-next.ensures.indexable.ordered.next_numbered.1 refl
    (link_adds_none table graph c.args.label.now c.args.rows.now none) (gives_nothing graph changes refl) (omega (arith, few, count))
