use Rattle.std.proofs.Common.{◌≤◌, length, refl, arith}
use Rattle.join_tables.proofs.LeadingLaws.{into_none, into_more, into_all}
use Rattle.join_tables.proofs.leading.leading_to.Goals as goal

pub labels-init : goal.labels-init
labels-init g c = into_none (g.K.Links.edges c.args.links.now) c.args.word.now c.args.ends 0 refl

pub labels-preserved : goal.labels-preserved
labels-preserved g c =
    let few : length c.in_ok-found.found ≤ c.args.most = omega (arith, c.len.ensures, c.if-len-most.false) in
    into_more (g.K.Links.edges c.args.links.now) c.args.word.now (record { 0 = 0 }) c.args.ends c.labels.found c.as_slice.result.now c.in_ok-found.found
    c.labels.taken c.labels-test.true c.as_slice.ensures c.labels.invariant (c.in_ok-found.ensures few)

pub returns : goal.returns
returns g c = into_all (g.K.Links.edges c.args.links.now) c.args.word.now c.args.ends c.labels.found c.labels.taken c.labels-test.false c.labels.invariant
