use Rattle.edge_lists.proofs.ProbeLaws.{further_same, further_later}
use Rattle.edge_lists.proofs.probes.later_of.Goals as goal

pub returns-then-leads : goal.returns-then-leads
returns-then-leads c = further_later c.args.side c.args.records.now c.args.edge.now c.args.come.now c.args.here c.args.there (c.leads.ensures c.if-leads.true)

pub returns-else-leads : goal.returns-else-leads
returns-else-leads c = further_same c.args.side c.args.records.now c.args.edge.now c.args.come.now c.args.here
