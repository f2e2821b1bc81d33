use Rattle.std.proofs.Common.{refl, ◌∙◌, arith}
use Rattle.sorted_list.proofs.SingleLaws.{without-none, without-more, without-end}
use Rattle.sorted_list.proofs.going.take_each.Goals as goal

pub gone-init : goal.gone-init
gone-init g c = record {
  without = without-none (g.O.Order.order_of c.args.order.now) (g.met.O.Order.total c.args.order.now) c.requires.exact _ c.requires.ascend;
  few = omega arith;
  capacity = refl;
}

pub take_one-requires-clause-ascend : goal.take_one-requires-clause-ascend
take_one-requires-clause-ascend g c = c.gone.invariant.without.ascend

pub gone-preserved : goal.gone-preserved
gone-preserved g c = record {
  without = without-more (g.O.Order.order_of c.args.order.now) (g.met.O.Order.total c.args.order.now) c.requires.exact _ _ _ c.gone-test.true c.item-item.is _ _ _ c.gone.invariant.without c.take_one.ensures.without;
  few = omega (arith, c.take_one.ensures.few, c.gone.invariant.few);
  capacity = c.take_one.ensures.capacity ∙ c.gone.invariant.capacity;
}

pub returns-clause-without : goal.returns-clause-without
returns-clause-without g c =
    without-end (g.O.Order.order_of c.args.order.now) (g.met.O.Order.total c.args.order.now) c.requires.exact c.args.gone.now _ _ c.gone.item-index (omega (arith, c.gone-test.false)) c.gone.invariant.without
