use Rattle.std.proofs.Common.{◌≡◌, ◌+◌, ◌<◌, ◌≤◌, length, refl, sym, ap, ◌∙◌, arith}
use Rattle.updates.specs.Types.{LABELS}
use Rattle.updates.specs.Effects.{targets, assigning}
use Rattle.updates.specs.inside.RowTests.{hides_children}
use Rattle.updates.proofs.TextLaws.{over, under}
use Rattle.updates.proofs.FormLaws.{hides, unhidden, adds_nothing, form_hides, form_clear, form_full}
use Rattle.updates.proofs.assignments.assign.Goals as goal

pub returns-then-hides_children-clause-err : goal.returns-then-hides_children-clause-err
returns-then-hides_children-clause-err c =
    let graph = c.args.graph.now.graph in
    let changes = assigning graph.objects c.args.value.now (targets c.args.rows.now) in
    let some = sym (c.hides_children.ensures ∙ ap (hides_children graph.edges c.args.value.now) c.as_slice.ensures) ∙ c.if-hides_children.true in
    form_hides c.args.labels.now graph changes (adds_nothing graph changes refl) (hides graph c.args.value.now c.args.rows.now some)

pub returns-then-has_too_many-clause-err : goal.returns-then-has_too_many-clause-err
returns-then-has_too_many-clause-err c =
    let graph = c.args.graph.now.graph in
    let changes = assigning graph.objects c.args.value.now (targets c.args.rows.now) in
    let none = sym (c.hides_children.ensures ∙ ap (hides_children graph.edges c.args.value.now) c.as_slice.ensures) ∙ c.if-hides_children.false in
    let full = over c.has_too_many.result (LABELS < length c.args.labels.now) c.has_too_many.ensures c.if-has_too_many.true in
    form_full c.args.labels.now graph changes c.next-next.ensures.indexable.ordered.next_numbered.1 refl
    (adds_nothing graph changes refl) (unhidden graph c.args.value.now c.args.rows.now none) (omega (arith, full))

pub returns-clause-ok : goal.returns-clause-ok
returns-clause-ok c =
    let graph = c.args.graph.now.graph in
    let changes = assigning graph.objects c.args.value.now (targets c.args.rows.now) in
    let none = sym (c.hides_children.ensures ∙ ap (hides_children graph.edges c.args.value.now) c.as_slice.ensures) ∙ c.if-hides_children.false in
    let few = under c.has_too_many.result LABELS (length c.args.labels.now) c.has_too_many.ensures c.if-has_too_many.false in
    form_clear c.args.labels.now graph changes c.next-next.ensures.indexable.ordered.next_numbered.1 refl
    (adds_nothing graph changes refl) (unhidden graph c.args.value.now c.args.rows.now none) (omega (arith, few))
