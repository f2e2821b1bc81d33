use Rattle.std.proofs.Common.{List, [], refl, subst, arith}
use Rattle.std.proofs.lemmas.List.{take_all}
use Rattle.graph_changes.specs.Types.{Oid}
use Rattle.graph_changes.specs.Given.{AreDropped}
use Rattle.graph_changes.proofs.RecordLaws.{all-stay}
use Rattle.graph_changes.proofs.DropLaws.{dropped-more, ascend-dropped}
use Rattle.graph_changes.proofs.object_changes.drop_each.Goals as goal

pub dead-init : goal.dead-init
dead-init c = all-stay [] c.args.objects.now.items refl

pub drop_object-requires : goal.drop_object-requires
drop_object-requires c = ascend-dropped _ _ _ c.requires c.dead.invariant

pub dead-preserved : goal.dead-preserved
dead-preserved c = dropped-more c.args.dead.now c.dead.oid-index _ c.dead-test.true _ _ _ c.dead.invariant c.drop_object.ensures

pub returns : goal.returns
returns c =
    subst (λ (l : List Oid). AreDropped l c.args.objects.now.items c.dead.objects.items) (take_all c.dead.oid-index c.args.dead.now (omega (arith, c.dead-test.false)))
    c.dead.invariant
