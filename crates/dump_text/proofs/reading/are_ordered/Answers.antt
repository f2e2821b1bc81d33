use Rattle.std.proofs.Common.{true≢false, sym, subst, ◌∙◌}
use Rattle.lore_base.specs.Names.{IsNameTable}
use Rattle.dump_text.specs.inside.RuleParts.{KeepsOrder}
use Rattle.dump_text.proofs.ListLaws.{told_false}
use Rattle.dump_text.proofs.RuleLaws.{order_told, order_broken}
use Rattle.dump_text.proofs.reading.are_ordered.Goals as goal

pub returns-then-not-are_ascending_names : goal.returns-then-not-are_ascending_names
returns-then-not-are_ascending_names c =
    told_false (λ (order : KeepsOrder c.args.tree.now). true≢false
    (sym (c.are_ascending_names.ensures.1 (subst IsNameTable (sym c.as_slice-names.ensures) order.names)) ∙ c.if-not-are_ascending_names.true))

pub returns-then-not-are_numbered : goal.returns-then-not-are_numbered
returns-then-not-are_numbered c =
    told_false (order_broken c.args.tree.now c.args.next c.requires c.as_slice-names.result.now c.as_slice-objects.result.now
    c.as_slice-names.ensures c.as_slice-objects.ensures
    (λ both. true≢false (sym (c.are_numbered.ensures.1 both) ∙ c.if-not-are_numbered.true)))

pub are_named-requires : goal.are_named-requires
are_named-requires c = (c.are_numbered.ensures.0 c.if-not-are_numbered.false).0

pub returns : goal.returns
returns c =
    order_told c.args.tree.now c.args.next c.requires c.as_slice-names.result.now c.as_slice-objects.result.now c.as_slice-names.ensures
    c.as_slice-objects.ensures (c.are_ascending_names.ensures.0 c.if-not-are_ascending_names.false)
    (c.are_numbered.ensures.0 c.if-not-are_numbered.false) c.are_named.result c.are_named.ensures
