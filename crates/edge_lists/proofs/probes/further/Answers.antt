use Rattle.edge_lists.proofs.ProbeLaws.{further_same}
use Rattle.edge_lists.proofs.probes.further.Goals as goal

pub returns : goal.returns
returns c = further_same c.args.side c.args.records.now c.args.edge.now c.args.come.now c.args.key
