use Rattle.index_eval.proofs.EndLaws.{takes_for, ends_without}
use Rattle.index_eval.proofs.ends.append_ends_of.Goals as goal

pub returns-in-Some : goal.returns-in-Some
returns-in-Some g c =
    takes_for (g.G.ValueOf.objects c.args.readers.now.graph.now) (g.V.Values.entries c.args.readers.now.values.now) c.args.comparison.now c.args.from
    c.in-Some.value.now c.args.ends.now c.append_ends.new.ends c.append_ends.result c.in-Some.ensures.only c.append_ends.ensures

pub returns-in-None : goal.returns-in-None
returns-in-None g c =
    ends_without (g.G.ValueOf.objects c.args.readers.now.graph.now) (g.V.Values.entries c.args.readers.now.values.now) c.args.comparison.now c.args.from
    c.args.ends.now c.in-None.ensures.only
