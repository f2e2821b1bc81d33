use Rattle.graph_changes.proofs.GoneLaws.{leaving-none, leaving-more}
use Rattle.graph_changes.proofs.edges_then.leaving_edges.Goals as goal

pub oids-init : goal.oids-init
oids-init c = rw c.new-edges.ensures (leaving-none c.args.records.now)

pub oids-preserved : goal.oids-preserved
oids-preserved c = leaving-more c.args.records.now c.args.oids.now c.requires.oids c.oids.oid-index _ c.oids-test.true
    c.oids.edges c.push_records.new.found c.oids.invariant c.in_ok-push_records.ensures
