use Rattle.std.proofs.Common.{ap, sym, take, arith}
use Rattle.value_orders.proofs.BehindLaws.{set-here, push-there}
use Rattle.value_orders.proofs.held.set_or_push.Goals as goal

pub returns-in-Ok-clause-set : goal.returns-in-Ok-clause-set
returns-in-Ok-clause-set c =
    set-here c.args.values.now.items _ _ _ c.args.object c.args.known c.in-Ok.place (omega (arith, c.requires.known, c.args.values.now.ok.0))
    (ap (take c.args.known) c.as_slice.ensures.value) c.as_mut_slice.ensures.value c.in-Ok.ensures.bound (c.in-Ok.ensures.position c.args.object)
    c.set_object.ensures (sym c.as_mut_slice.ensures.len)

pub returns-in-Err-clause-set : goal.returns-in-Err-clause-set
returns-in-Err-clause-set c =
    push-there c.args.values.now.items _ _ c.args.object c.args.known _ (ap (take c.args.known) c.as_slice.ensures.value) c.requires.ascend
    c.in-Err.ensures.position c.push_reserved.ensures.items
