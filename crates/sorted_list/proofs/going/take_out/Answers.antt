use Rattle.sorted_list.proofs.SingleLaws.{without-staying}
use Rattle.sorted_list.proofs.going.take_out.Goals as goal

pub returns-else-gone-le-FEW-clause-without : goal.returns-else-gone-le-FEW-clause-without
returns-else-gone-le-FEW-clause-without g c =
    without-staying (g.O.Order.order_of c.args.order.now) (g.P.Order.order_of c.args.listed.now) (g.met.P.Order.total c.args.listed.now) c.requires.exact_listed
    c.args.gone.now _ _ c.requires.ascend c.take_all.ensures.staying
