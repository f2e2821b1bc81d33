use Rattle.std.proofs.Common.{◌≢◌, Bool, true≢false, sym, ◌∙◌}
use Rattle.dump_text.specs.Types.{Oid, Value, Flag}
use Rattle.dump_text.proofs.ListLaws.{denied, passed}
use Rattle.dump_text.proofs.rules.have_no_flags.Goals as goal

pub returns-then-not-is_no_flag : goal.returns-then-not-is_no_flag
returns-then-not-is_no_flag c =
    denied (λ (x : Oid × Value). (flag : Bool) → x.1 ≢ Flag flag) c.args.objects.now c.objects.object-index c.object-item.result c.objects-test.true c.object-item.is
    (λ passes. true≢false (sym (c.is_no_flag.ensures.1 passes) ∙ c.if-not-is_no_flag.true))

pub objects-preserved : goal.objects-preserved
objects-preserved c =
    passed (λ (x : Oid × Value). (flag : Bool) → x.1 ≢ Flag flag) c.args.objects.now c.objects.object-index c.object-item.result c.objects-test.true c.object-item.is
    (c.is_no_flag.ensures.0 c.if-not-is_no_flag.false) c.objects.invariant
