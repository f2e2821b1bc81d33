use Rattle.std.proofs.Common.{refl, List, subst}
use Rattle.std.proofs.lemmas.Result.{IfOk-weaker}
use Rattle.join_tables.specs.Types.{Oid}
use Rattle.join_tables.specs.inside.Numbers.{AreNumbered}
use Rattle.join_tables.proofs.NumberLaws.{ends_found}
use Rattle.join_tables.proofs.numbers.ends_of.Goals as goal

pub returns : goal.returns
returns g c =
    let objects = g.G.ValueOf.objects c.args.graph.now in
    IfOk-weaker c.numbered.result _ _ (λ rows numbered. ends_found objects (g.V.Values.entries c.args.values.now) c.args.label _ c.new-ends.result c.probe.new.buf rows c.requires
    refl c.new-ends.ensures c.in_ok-probe.ensures.objects (subst (λ (l : List Oid). AreNumbered objects l rows) c.as_slice.ensures numbered)) c.numbered.ensures
