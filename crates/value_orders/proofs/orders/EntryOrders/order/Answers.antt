use Rattle.std.proofs.Common.{sym, ap, ◌∙◌}
use Rattle.value_orders.specs.Orders.{Orders, order_at}
use Rattle.value_orders.proofs.orders.EntryOrders.order.Goals as goal

pub returns-in-Wholes : goal.returns-in-Wholes
returns-in-Wholes c = c.as_slice.ensures.value ∙ ap (λ (o : Orders). o.wholes) c.self.view_is ∙ ap (order_at c.args.self.now) (sym c.in-Wholes.is)

pub returns-in-Texts : goal.returns-in-Texts
returns-in-Texts c = c.as_slice-in-Texts.ensures.value ∙ ap (λ (o : Orders). o.chars) c.self.view_is ∙ ap (order_at c.args.self.now) (sym c.in-Texts.is)

pub returns-in-Flags : goal.returns-in-Flags
returns-in-Flags c = c.as_slice-in-Flags.ensures.value ∙ ap (λ (o : Orders). o.flags) c.self.view_is ∙ ap (order_at c.args.self.now) (sym c.in-Flags.is)

pub returns-in-Readings : goal.returns-in-Readings
returns-in-Readings c = c.as_slice-in-Readings.ensures.value ∙ ap (λ (o : Orders). o.readings) c.self.view_is ∙ ap (order_at c.args.self.now) (sym c.in-Readings.is)

pub returns-in-FlagReadings : goal.returns-in-FlagReadings
returns-in-FlagReadings c = c.as_slice-in-FlagReadings.ensures.value ∙ ap (λ (o : Orders). o.flag_readings) c.self.view_is ∙ ap (order_at c.args.self.now) (sym c.in-FlagReadings.is)
