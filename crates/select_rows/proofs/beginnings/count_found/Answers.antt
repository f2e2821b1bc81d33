use Rattle.std.proofs.Common.{Option, subst, arith}
use Rattle.lorel_bound.specs.Plans.{IsCandidate}
use Rattle.select_rows.specs.Types.{Oid, Label}
use Rattle.select_rows.proofs.SomeReadLaws.{some_found}
use Rattle.select_rows.proofs.beginnings.count_found.Goals as goal

pub returns : goal.returns
returns g c = λ none.
    let entries = g.V.Values.entries c.args.values.now in
    some_found entries c.in-Some.label c.args.op c.args.value.now c.probe_count-count.result c.probe_count-count.ensures (omega (arith, c.if-count-eq0.false))
    (subst (λ (label : Option Label). (oid : Oid) → IsCandidate entries label c.args.op c.args.value.now oid → ⊥) c.in-Some.is none)
