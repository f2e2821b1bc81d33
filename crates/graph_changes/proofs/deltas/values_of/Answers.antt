use Rattle.std.proofs.Common.{map}
use Rattle.edge_lists.specs.Objects.{object_of}
use Rattle.graph_changes.proofs.PairLaws.{pairs-ascend}
use Rattle.graph_changes.proofs.DeltaLaws.{values-none, values-step}
use Rattle.graph_changes.proofs.deltas.values_of.Goals as goal

pub oids-init : goal.oids-init
oids-init c = rw c.new-values.ensures (values-none (map object_of c.args.objects.now))

pub oids-preserved : goal.oids-preserved
oids-preserved c = values-step (map object_of c.args.objects.now) c.args.oids.now (pairs-ascend c.args.objects.now c.requires.objects) c.requires.oids c.oids.oid-index _ c.oids-test.true
    c.oids.values c.push_value.new.values c.oids.invariant c.in_ok-push_value.ensures
