use Rattle.lorel_eval.specs.inside.Sides.{ComparesWith}
use Rattle.lorel_eval.proofs.SideLaws.{own_tells}
use Rattle.lorel_eval.proofs.comparisons.object_compares.Goals as goal

pub returns-in-Some : goal.returns-in-Some
returns-in-Some g c =
    let objects = g.G.ValueOf.objects c.args.values.now in
    own_tells objects (ComparesWith objects c.args.op c.args.right.now) c.args.oid c.in-Some.value.now c.value_compares.result
    c.in-Some.ensures.found c.in-Some.ensures.only c.value_compares.ensures
