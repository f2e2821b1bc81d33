use Rattle.std.proofs.Common.{◌∙◌, not, ap}
use Rattle.updates.proofs.RowLaws.{atomic_is, atomic_none}
use Rattle.updates.proofs.row_tests.is_atomic.Goals as goal

pub returns-in-Some : goal.returns-in-Some
returns-in-Some c =
    ap not c.is_complex.ensures
    ∙ atomic_is c.args.graph.now.graph.objects c.args.oid c.in-Some.value.now c.in-Some.ensures.found
    (λ other at. let one = c.in-Some.ensures.only other at in cc)

pub returns-in-None : goal.returns-in-None
returns-in-None c = atomic_none c.args.graph.now.graph.objects c.args.oid c.in-None.ensures.none
