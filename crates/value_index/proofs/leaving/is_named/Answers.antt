use Rattle.std.proofs.Common.{refl, sym, arith}
use Rattle.std.proofs.lemmas.Bool.{false≢true}
use Rattle.value_orders.specs.inside.Naming.{naming}
use Rattle.value_index.proofs.NameLaws.{passed-none, passed-all, passed-more, passes-on, labels-rise, names-to}
use Rattle.value_index.proofs.leaving.is_named.Goals as goal

pub labels-init : goal.labels-init
labels-init c = passed-none c.args.entries.now c.args.object

pub returns-then-is_there : goal.returns-then-is_there
returns-then-is_there c = sym (names-to c.args.entries.now (naming _ c.args.object) (c.if-is_there.ensures.0 refl))

pub end_of-start-requires : goal.end_of-start-requires
end_of-start-requires c = labels-rise c.args.values.now c.args.kind c.args.entries.now c.requires.ascend

pub labels-preserved : goal.labels-preserved
labels-preserved c =
    passed-more c.args.entries.now c.args.object _ c.labels.start _ (labels-rise c.args.values.now c.args.kind c.args.entries.now c.requires.ascend)
    c.end_of-start.ensures.past _ c.labels-test.true refl c.labels.invariant (λ at. false≢true (c.if-is_there.ensures.1 at))

pub labels-smaller : goal.labels-smaller
labels-smaller c =
    let on = passes-on c.args.entries.now c.args.object _ c.labels.start _ (labels-rise c.args.values.now c.args.kind c.args.entries.now c.requires.ascend)
    c.end_of-start.ensures.past _ c.labels-test.true refl in
    omega (arith, c.labels-test.true, c.end_of-start.ensures.bound, on)

pub returns : goal.returns
returns c = sym (passed-all c.args.entries.now c.args.object c.labels.start (omega (arith, c.labels-test.false)) c.labels.invariant)
