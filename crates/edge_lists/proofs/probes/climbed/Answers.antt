use Rattle.edge_lists.proofs.ProbeLaws.{further_same, further_trans}
use Rattle.edge_lists.proofs.probes.climbed.Goals as goal

pub strides-init : goal.strides-init
strides-init c = further_same c.args.side c.args.records.now c.args.edge.now c.args.come.now c.args.key

pub strides-preserved : goal.strides-preserved
strides-preserved c = further_trans c.args.side c.args.records.now c.args.edge.now c.args.come.now c.args.key c.strides.best c.probed-later.result
    c.strides.invariant c.probed-later.ensures
