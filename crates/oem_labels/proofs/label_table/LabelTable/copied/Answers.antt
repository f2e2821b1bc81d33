use Rattle.std.proofs.Common.{◌++◌, length, length-append, ap, ◌∙◌, arith}
use Rattle.oem_labels.specs.Labels.{first_uses}
use Rattle.oem_labels.proofs.TableLaws.{gain-all}
use Rattle.oem_labels.proofs.label_table.LabelTable.copied.Goals as goal

pub add_all-requires : goal.add_all-requires
add_all-requires c =
    let none = c.in_ok-with_capacity.field-0.keys in
    let keys = c.self.inside.texts.keys in
    let whole = ap length (gain-all none keys c.in_ok-with_capacity.ensures.empty c.self.invariant.distinct) in
    let slice = ap (λ l. length (first_uses none l)) c.as_slice.ensures.keys in
    omega (arith, whole, slice, length-append none (first_uses none keys), c.self.invariant.few)

pub returns : goal.returns
returns c =
    let none = c.in_ok-with_capacity.field-0.keys in
    c.in_ok-add_all.ensures
    ∙ ap (λ l. none ++ first_uses none l) c.as_slice.ensures.keys
    ∙ gain-all none c.self.inside.texts.keys c.in_ok-with_capacity.ensures.empty c.self.invariant.distinct
    ∙ c.self.view_is
