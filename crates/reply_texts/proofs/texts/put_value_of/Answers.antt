use Rattle.std.proofs.Common.{Bor, ap, refl, ◌∙◌}
use Rattle.reply_texts.specs.Types.{Value}
use Rattle.lore_base.specs.Printed.{printed}
use Rattle.lore_base.proofs.PutLaws.{Puts-same}
use Rattle.lore_base.proofs.ValueLaws.{value_of-found}
use Rattle.reply_texts.proofs.texts.put_value_of.Goals as goal

pub returns : goal.returns
returns g c =
    let objects = g.V.ValueOf.objects c.args.values.now in
    let value = ap (λ (r : Bor Value). r.now) c.unwrap_or.ensures ∙ value_of-found objects c.args.oid c.value_of.result _ c.value_of.ensures.found c.value_of.ensures.only refl in
    Puts-same g.O.Out.is_memory _ _ _ _ c.print_value.result (ap printed value) c.print_value.ensures
