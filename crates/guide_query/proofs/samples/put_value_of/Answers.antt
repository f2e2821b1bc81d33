use Rattle.std.proofs.Common.{◌≡◌, ℕ, List, ◌++◌, Bor, refl, ap, ◌∙◌, subst}
use Rattle.std.specs.Result.{OnOk}
use Rattle.lore_base.specs.Printed.{printed}
use Rattle.guide_query.specs.Types.{Value}
use Rattle.lore_base.proofs.ValueLaws.{value_of-found}
use Rattle.guide_query.proofs.samples.put_value_of.Goals as goal

pub returns : goal.returns
returns g c =
    let value =
    ap (λ (r : Bor Value). r.now) c.unwrap_or.ensures
    ∙ value_of-found (g.V.ValueOf.objects c.args.values.now) c.args.oid c.value_of.result _ c.value_of.ensures.found
    c.value_of.ensures.only refl in
    subst (λ (bytes : List ℕ). OnOk c.put_value.result (c.put_value.new.text ≡ c.args.text.now ++ bytes))
    (ap printed value) c.put_value.ensures
