use Rattle.edge_lists.proofs.ProbeLaws.{further_trans}
use Rattle.edge_lists.proofs.probes.spread.Goals as goal

pub returns : goal.returns
returns c = further_trans c.args.side c.args.records.now c.args.edge.now c.args.come.now c.args.key c.probed-best.result c.climbed.result
    c.probed-best.ensures c.climbed.ensures
