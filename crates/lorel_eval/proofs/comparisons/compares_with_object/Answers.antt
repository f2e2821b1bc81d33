use Rattle.lore_base.specs.Comparisons.{Compares}
use Rattle.lorel_eval.proofs.SideLaws.{own_tells}
use Rattle.lorel_eval.proofs.comparisons.compares_with_object.Goals as goal

pub returns-in-Some : goal.returns-in-Some
returns-in-Some g c =
    own_tells (g.G.ValueOf.objects c.args.values.now) (Compares c.args.value.now c.args.op) c.args.oid c.in-Some.other.now c.compare.result
    c.in-Some.ensures.found c.in-Some.ensures.only c.compare.ensures
