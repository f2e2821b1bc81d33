use Rattle.std.proofs.Common.{ap, ◌∙◌}
use Rattle.value_orders.specs.EntryOrder.{ValueOrder, entry_order}
use Rattle.value_orders.proofs.by_value.ByValueOrderEntry.compare.Goals as goal

pub returns : goal.returns
returns c = c.compare_entries.ensures ∙ ap (λ (o : ValueOrder). entry_order o.values o.kind c.args.first.now c.args.second.now) c.self.view_is
