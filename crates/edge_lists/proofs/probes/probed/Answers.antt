use Rattle.edge_lists.proofs.ProbeLaws.{further_same, further_trans}
use Rattle.edge_lists.proofs.probes.probed.Goals as goal

pub probes-init : goal.probes-init
probes-init c = further_same c.args.side c.args.records.now c.args.edge.now c.args.come.now c.args.key

pub probes-preserved : goal.probes-preserved
probes-preserved c = further_trans c.args.side c.args.records.now c.args.edge.now c.args.come.now c.args.key c.probes.best c.later_of-later.result
    c.probes.invariant c.later_of-later.ensures
