use Rattle.std.proofs.Common.{◌+◌, arith}
use Rattle.oem_text.proofs.GeneratedObjectLaws.{complex_more}
use Rattle.oem_text.proofs.generated_objects.put_complex.Goals as goal

pub objects-preserved : goal.objects-preserved
objects-preserved c =
    complex_more c.args.objects.now c.objects.objects c.push.new.self c.args.first (c.args.first + c.from.result) c.objects.place c.objects.invariant
    (omega (arith, c.from.ensures)) c.in_ok-push.ensures.ok
