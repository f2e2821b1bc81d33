use Rattle.std.proofs.Common.{true≢false, sym, ◌∙◌}
use Rattle.lore_base.specs.Databases.{IsSized}
use Rattle.dump_text.specs.Types.{Oid, Value}
use Rattle.dump_text.proofs.ListLaws.{denied, passed}
use Rattle.dump_text.proofs.rules.are_sized.Goals as goal

pub returns-then-not-is_sized : goal.returns-then-not-is_sized
returns-then-not-is_sized c =
    denied (λ (x : Oid × Value). IsSized x.1) c.args.objects.now c.objects.object-index c.object-item.result c.objects-test.true c.object-item.is
    (λ passes. true≢false (sym (c.is_sized.ensures.1 passes) ∙ c.if-not-is_sized.true))

pub objects-preserved : goal.objects-preserved
objects-preserved c =
    passed (λ (x : Oid × Value). IsSized x.1) c.args.objects.now c.objects.object-index c.object-item.result c.objects-test.true c.object-item.is
    (c.is_sized.ensures.0 c.if-not-is_sized.false) c.objects.invariant
