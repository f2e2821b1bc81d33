use Rattle.std.proofs.Common.{subst}
use Rattle.index_eval.specs.inside.Ends.{IsProbedEnd}
use Rattle.index_eval.proofs.EndLaws.{compared_found, met_found}
use Rattle.index_eval.proofs.ends.ends_of.Goals as goal

pub ends_compared-requires : goal.ends_compared-requires
ends_compared-requires g c = subst IsProbedEnd c.in-Compared.is c.requires

pub returns-in-Compared : goal.returns-in-Compared
returns-in-Compared g c =
    let readers = c.args.readers.now in
    compared_found readers.labels.now (g.G.Adjacent.edges readers.graph.now) (g.G.ValueOf.objects readers.graph.now) (g.V.Values.entries readers.values.now)
    c.args.row.now c.args.end.now c.in-Compared.comparison c.ends_compared.result c.in-Compared.is c.ends_compared.ensures

pub returns-in-Met : goal.returns-in-Met
returns-in-Met g c =
    let readers = c.args.readers.now in
    met_found readers.labels.now (g.G.Adjacent.edges readers.graph.now) (g.G.ValueOf.objects readers.graph.now) (g.V.Values.entries readers.values.now)
    c.args.row.now c.args.end.now c.in-Met.meeting c.ends_met.result c.in-Met.is c.ends_met.ensures
