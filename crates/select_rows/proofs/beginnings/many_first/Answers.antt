use Rattle.std.proofs.lemmas.Option.{IfSome_then}
use Rattle.select_rows.proofs.SomeReadLaws.{first_can, begun_so, begun_guided, if_any}
use Rattle.select_rows.proofs.beginnings.many_first.Goals as goal

pub count_found-requires-clause-op : goal.count_found-requires-clause-op
count_found-requires-clause-op g c =
    let can = first_can c.args.steps.now _ _ _ c.in-Some.ensures.cases.0 c.in-FromValue.is c.requires in
    can.1

pub count_found-requires-clause-value : goal.count_found-requires-clause-value
count_found-requires-clause-value g c =
    let can = first_can c.args.steps.now _ _ _ c.in-Some.ensures.cases.0 c.in-FromValue.is c.requires in
    can.2

pub returns-in-FromValue : goal.returns-in-FromValue
returns-in-FromValue g c = IfSome_then c.count_found.result c.count_found.ensures (λ count some.
    begun_so (g.V.Values.entries c.args.values.now) c.args.steps.now _ _ _ c.in-Some.ensures.cases.0 c.in-FromValue.is some)

pub count-requires : goal.count-requires
count-requires g c = record {
  leaves = first_can c.args.steps.now _ _ _ c.in-Some.ensures.cases.0 c.in-FromGuide.is c.requires;
}

pub returns-in_ok-count-in-FromGuide : goal.returns-in_ok-count-in-FromGuide
returns-in_ok-count-in-FromGuide g c = if_any c.not_fewer.result _
    (begun_guided (g.V.Values.entries c.args.values.now) c.args.steps.now _ _ _ _ _ c.in-Some.ensures.cases.0 c.in-FromGuide.is
    (c.ends_in_test.ensures c.if-not-ends_in_test.false))
