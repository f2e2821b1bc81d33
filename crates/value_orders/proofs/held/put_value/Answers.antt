use Rattle.std.proofs.Common.{ap, sym, length, arith}
use Rattle.std.specs.Prelude.{is_ok}
use Rattle.value_orders.proofs.HeldLaws.{set-put, gap-put}
use Rattle.value_orders.proofs.held.put_value.Goals as goal

pub set_object-requires : goal.set_object-requires
set_object-requires c = omega (arith, c.in-Ok.ensures.bound, ap length c.as_slice.ensures.value, ap length c.as_mut_slice.ensures.value)

pub returns-in-Ok-clause-put : goal.returns-in-Ok-clause-put
returns-in-Ok-clause-put c =
    set-put c.args.values.now.items _ _ _ c.args.object c.in-Ok.place c.as_slice.ensures.value c.as_mut_slice.ensures.value c.requires.ascend
    c.in-Ok.ensures.bound (c.in-Ok.ensures.position c.args.object) c.set_object.ensures (sym c.as_mut_slice.ensures.len)

pub returns-in-Ok-insert-clause-put : goal.returns-in-Ok-insert-clause-put
returns-in-Ok-insert-clause-put c =
    gap-put c.args.values.now.items _ _ c.args.object c.in-Err.place c.as_slice.ensures.value c.requires.ascend c.in-Err.ensures.position
    (is_ok c.insert.result) c.insert.ensures.items (ap is_ok c.in-Ok-insert.is)
