use Rattle.std.proofs.Common.{List, subst}
use Rattle.index_eval.specs.Types.{Oid}
use Rattle.index_eval.specs.inside.Ends.{TakesEnds}
use Rattle.index_eval.proofs.ends.ends_of_value.Goals as goal

pub returns : goal.returns
returns g c =
    subst (λ (l : List Oid). TakesEnds (g.V.Values.entries c.args.readers.now.values.now) c.args.comparison.now c.args.value.now l c.append_ends.new.ends)
    c.new-ends.ensures c.in_ok-append_ends.ensures
