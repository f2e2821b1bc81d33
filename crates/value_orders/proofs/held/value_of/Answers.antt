use Rattle.std.proofs.Common.{sym}
use Rattle.value_orders.proofs.HeldLaws.{found-value, none-live, value-none}
use Rattle.value_orders.proofs.held.value_of.Goals as goal

pub returns-in-Some : goal.returns-in-Some
returns-in-Some c = sym c.in-Some.ensures

pub returns-in-Ok : goal.returns-in-Ok
returns-in-Ok c = sym (found-value _ c.requires c.args.oid c.in-Ok.place _ c.in-Ok.ensures.bound (c.in-Ok.ensures.position _))

pub returns-in-Err : goal.returns-in-Err
returns-in-Err c = sym (value-none _ _ (none-live _ c.requires _ _ c.in-Err.ensures.position))
