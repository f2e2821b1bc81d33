use Rattle.lore_base.specs.Printed.{printed}
use Rattle.lore_base.specs.Printed.{value_of}
use Rattle.lore_base.proofs.PutLaws.{Breaks-early, Puts-broken, Puts-then}
use Rattle.reply_texts.proofs.texts.put_object.Goals as goal

pub returns-in_err-put_oid : goal.returns-in_err-put_oid
returns-in_err-put_oid g c =
    let value = printed (value_of (g.V.ValueOf.objects c.args.values.now) c.args.oid) in
    Puts-broken g.O.Out.is_memory c.from_residual.result c.from_residual.ensures.1 (Breaks-early value c.in_err-put_oid.ensures)

pub returns : goal.returns
returns g c =
    let value = printed (value_of (g.V.ValueOf.objects c.args.values.now) c.args.oid) in
    Puts-then g.O.Out.is_memory _ value c.put_value_of.result c.in_ok-put_oid.ensures c.put_value_of.ensures
