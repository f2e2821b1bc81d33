use Rattle.std.proofs.Common.{Contains, true≢false, sym, ◌∙◌}
use Rattle.dump_text.specs.Types.{Oid, Value}
use Rattle.dump_text.proofs.ListLaws.{denied, passed}
use Rattle.dump_text.proofs.reach.are_among.Goals as goal

pub returns-then-not-is_among : goal.returns-then-not-is_among
returns-then-not-is_among c =
    denied (λ (x : Oid × Value). Contains c.args.oids.now x.0) c.args.objects.now c.objects.object-index c.object-item.result c.objects-test.true c.object-item.is
    (λ passes. true≢false (sym (c.is_among.ensures.1 passes) ∙ c.if-not-is_among.true))

pub objects-preserved : goal.objects-preserved
objects-preserved c =
    passed (λ (x : Oid × Value). Contains c.args.oids.now x.0) c.args.objects.now c.objects.object-index c.object-item.result c.objects-test.true c.object-item.is
    (c.is_among.ensures.0 c.if-not-is_among.false) c.objects.invariant
