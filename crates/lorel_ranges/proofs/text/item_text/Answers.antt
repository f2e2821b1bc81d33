use Rattle.std.proofs.Common.{take, map, subst, sym, ap}
use Rattle.std.proofs.lemmas.List.{take_all}
use Rattle.list_laws.proofs.PartLaws.{map_more_read}
use Rattle.lorel_trees.specs.Trees.{item_tree}
use Rattle.lorel_ranges.specs.Readings.{ReadsItems}
use Rattle.lorel_ranges.proofs.text.item_text.Goals as goal

pub items-init : goal.items-init
items-init c = λ scope known in_scope alike. c.new-items.ensures scope known

pub items-preserved : goal.items-preserved
items-preserved c = λ scope known in_scope alike.
    subst (λ l. ReadsItems scope known l c.add.new.self)
    (sym (map_more_read item_tree c.args.list.now c.items.item-index c.item-item.result c.items-test.true c.item-item.is))
    (c.in_ok-add.ensures scope known (map item_tree (take c.items.item-index c.args.list.now)) in_scope alike (c.items.invariant scope known in_scope alike))

pub returns : goal.returns
returns c = λ scope known in_scope alike.
    subst (λ l. ReadsItems scope known l c.items.items) (ap (map item_tree) (take_all c.items.item-index c.args.list.now c.items-test.false))
    (c.items.invariant scope known in_scope alike)
