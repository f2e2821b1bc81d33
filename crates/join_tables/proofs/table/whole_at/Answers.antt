use Rattle.join_tables.proofs.NumberLaws.{whole_found}
use Rattle.join_tables.proofs.table.whole_at.Goals as goal

pub returns-in-Some : goal.returns-in-Some
returns-in-Some g c =
    whole_found (g.G.ValueOf.objects c.args.graph.now) c.args.oid c.in-Some.value.now c.whole_of.result c.in-Some.ensures.only c.whole_of.ensures
