use Rattle.std.proofs.Common.{◌+◌, ◌*◌, refl, arith}
use Rattle.oem_text.proofs.GeneratedObjectLaws.{objects_all}
use Rattle.oem_text.proofs.generated_objects.objects_of.Goals as goal

pub returns : goal.returns
returns c =
    objects_all c.args.seed c.args.count c.args.next (c.args.next + 1) (c.args.next + 1 + 4 * c.from.result) c.in_ok-objects.objects c.put_complex.new.objects
    c.put_persons.new.objects c.put_complex-2.new.objects c.in_ok-objects.ensures c.in_ok-put_complex.ensures refl c.in_ok-put_persons.ensures
    (omega (arith, c.from.ensures)) c.in_ok-put_complex-2.ensures
