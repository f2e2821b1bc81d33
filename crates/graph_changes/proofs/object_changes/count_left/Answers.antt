use Rattle.std.proofs.Common.{map, length, sym, ap, ◌∙◌, arith}
use Rattle.std.proofs.lemmas.List.{length-map}
use Rattle.edge_lists.specs.Objects.{object_of}
use Rattle.graph_changes.proofs.CountLaws.{none-dead, left-step}
use Rattle.graph_changes.proofs.object_changes.count_left.Goals as goal

pub dead-init : goal.dead-init
dead-init c = sym (ap length (none-dead (map object_of c.args.objects.now)) ∙ length-map c.args.objects.now object_of)

pub overflow_sub-count : goal.overflow_sub-count
overflow_sub-count c = omega (
  arith,
  c.dead.invariant,
  left-step c.args.dead.now c.requires.dead c.args.objects.now c.requires.objects c.dead.oid-index _ c.dead-test.true
      c.count_live-count.result c.count_live-count.ensures.most c.count_live-count.ensures.live c.count_live-count.ensures.none,
)

pub dead-preserved : goal.dead-preserved
dead-preserved c = omega (
  arith,
  c.dead.invariant,
  left-step c.args.dead.now c.requires.dead c.args.objects.now c.requires.objects c.dead.oid-index _ c.dead-test.true
      c.count_live-count.result c.count_live-count.ensures.most c.count_live-count.ensures.live c.count_live-count.ensures.none,
)
