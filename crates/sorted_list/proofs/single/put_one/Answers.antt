use Rattle.std.proofs.Common.{ap}
use Rattle.std.specs.Prelude.{is_ok}
use Rattle.sorted_list.proofs.SingleLaws.{found_stays, gap_fills}
use Rattle.sorted_list.proofs.single.put_one.Goals as goal

pub returns-in-Ok-clause-present : goal.returns-in-Ok-clause-present
returns-in-Ok-clause-present g c =
    found_stays (g.O.Order.order_of c.args.order.now) (g.met.O.Order.total c.args.order.now) c.requires.exact _ _ c.as_slice.ensures.value c.args.item _ c.requires.ascend
    c.in-Ok.ensures.bound (c.in-Ok.ensures.position c.args.item)

pub returns-in-Ok-insert-clause-present : goal.returns-in-Ok-insert-clause-present
returns-in-Ok-insert-clause-present g c =
    gap_fills (g.O.Order.order_of c.args.order.now) (g.met.O.Order.total c.args.order.now) c.requires.exact _ _ c.as_slice.ensures.value c.args.item _ c.requires.ascend
    c.in-Err.ensures.position _ (is_ok c.insert.result) c.insert.ensures.items (ap is_ok c.in-Ok-insert.is)
