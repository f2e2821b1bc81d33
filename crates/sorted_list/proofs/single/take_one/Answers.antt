use Rattle.sorted_list.proofs.SingleLaws.{found_goes, gap_stays}
use Rattle.sorted_list.proofs.single.take_one.Goals as goal

pub returns-in-Ok-clause-without : goal.returns-in-Ok-clause-without
returns-in-Ok-clause-without g c =
    found_goes (g.O.Order.order_of c.args.order.now) (g.met.O.Order.total c.args.order.now) c.requires.exact _ _ c.as_slice.ensures.value c.args.item.now _ c.requires.ascend
    c.in-Ok.ensures.bound (c.in-Ok.ensures.position c.args.item.now) _ c.remove-gone.ensures.by_index.2

pub returns-in-Err-clause-without : goal.returns-in-Err-clause-without
returns-in-Err-clause-without g c =
    gap_stays (g.O.Order.order_of c.args.order.now) (g.met.O.Order.total c.args.order.now) c.requires.exact _ _ c.as_slice.ensures.value c.args.item.now _ c.requires.ascend c.in-Err.ensures.position
