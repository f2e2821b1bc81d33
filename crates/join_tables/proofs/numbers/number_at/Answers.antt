use Rattle.join_tables.proofs.NumberLaws.{number_found, number_nowhere}
use Rattle.join_tables.proofs.numbers.number_at.Goals as goal

pub returns-in-Some : goal.returns-in-Some
returns-in-Some g c =
    number_found (g.G.ValueOf.objects c.args.graph.now) c.args.oid c.in-Some.value.now c.number_of.result c.in-Some.ensures.only c.number_of.ensures

pub returns-in-None : goal.returns-in-None
returns-in-None g c = number_nowhere (g.G.ValueOf.objects c.args.graph.now) c.args.oid _ c.in-None.ensures.only
