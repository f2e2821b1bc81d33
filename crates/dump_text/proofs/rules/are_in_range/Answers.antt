use Rattle.std.proofs.Common.{◌<◌, ◌≤◌, true≢false, sym, ◌∙◌}
use Rattle.dump_text.specs.Types.{Oid, Value}
use Rattle.dump_text.proofs.ListLaws.{denied, passed}
use Rattle.dump_text.proofs.rules.are_in_range.Goals as goal

pub returns-then-not-is_numbered : goal.returns-then-not-is_numbered
returns-then-not-is_numbered c =
    denied (λ (x : Oid × Value). (1 ≤ x.0.0) × (x.0.0 < c.args.next)) c.args.objects.now c.objects.object-index c.object-item.result c.objects-test.true c.object-item.is
    (λ passes. true≢false (sym (c.is_numbered.ensures.1 passes) ∙ c.if-not-is_numbered.true))

pub objects-preserved : goal.objects-preserved
objects-preserved c =
    passed (λ (x : Oid × Value). (1 ≤ x.0.0) × (x.0.0 < c.args.next)) c.args.objects.now c.objects.object-index c.object-item.result c.objects-test.true c.object-item.is
    (c.is_numbered.ensures.0 c.if-not-is_numbered.false) c.objects.invariant
