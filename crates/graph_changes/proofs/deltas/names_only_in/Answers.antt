use Rattle.std.proofs.Common.{◌∙◌}
use Rattle.graph_changes.proofs.DeltaLaws.{only-none, only-step}
use Rattle.graph_changes.proofs.deltas.names_only_in.Goals as goal

pub names-init : goal.names-init
names-init c = rw c.new-only.ensures (only-none c.args.others.now)

pub names-preserved : goal.names-preserved
names-preserved c = only-step c.args.names.now c.args.others.now c.requires.names c.requires.others c.as_slice-text-items.result.now c.as_slice-oids.result.now
    (c.as_slice-text-items.ensures ∙ c.in_ok-texts.ensures) (c.as_slice-oids.ensures ∙ c.in_ok-oids.ensures) c.names.place c.names-test.true c.text-item.result c.text-item.is _
    c.names.only c.put_only.new.only c.names.invariant c.in_ok-put_only.ensures
