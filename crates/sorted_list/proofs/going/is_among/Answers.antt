use Rattle.std.proofs.Common.{sym}
use Rattle.sorted_list.proofs.ListedLaws.{found, not_found}
use Rattle.sorted_list.proofs.going.is_among.Goals as goal

pub returns-in-Ok : goal.returns-in-Ok
returns-in-Ok g c = sym (found _ (g.met.P.Order.total c.args.order.now) _ _ _ c.args.item.now c.in-Ok.ensures.bound (c.in-Ok.ensures.position c.args.item.now))

pub returns-in-Err : goal.returns-in-Err
returns-in-Err g c = sym (not_found _ (g.met.P.Order.total c.args.order.now) _ c.requires _ _ c.in-Err.ensures.position)
