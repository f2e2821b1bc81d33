use Rattle.std.proofs.lemmas.Bool.{OnTrue_at}
use Rattle.dump_text.specs.Types.{Oid, Value}
use Rattle.dump_text.specs.inside.Noted.{IsNoted}
use Rattle.dump_text.proofs.ListLaws.{passed}
use Rattle.dump_text.proofs.reach.are_noted.Goals as goal

pub objects-preserved : goal.objects-preserved
objects-preserved c =
    passed (λ (x : Oid × Value). IsNoted c.args.noted.now c.args.first.0 x.0.0) c.args.objects.now c.objects.object-index c.object-item.result c.objects-test.true c.object-item.is
    (OnTrue_at c.if-not-is_noted.false c.is_noted.ensures) c.objects.invariant
