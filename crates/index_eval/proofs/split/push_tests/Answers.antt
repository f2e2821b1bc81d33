use Rattle.std.proofs.Common.{◌++◌, List, map, sym, ap, ◌∙◌, arith}
use Rattle.std.proofs.lemmas.List.{append-nil, take_all}
use Rattle.index_eval.specs.Types.{BoundCond}
use Rattle.index_eval.specs.inside.Listing.{cond_over}
use Rattle.member_clues.proofs.MadeLaws.{few_left}
use Rattle.index_eval.proofs.SplitLaws.{test_is, tests_more}
use Rattle.index_eval.proofs.split.push_tests.Goals as goal

pub conds-init : goal.conds-init
conds-init g c = record { few = c.requires; made = sym (append-nil c.args.tests.now.items) }

pub ready-requires : goal.ready-requires
ready-requires g c =
    omega (arith, few_left c.args.conds.now c.conds.cond-index c.cond-item.result c.conds-test.true c.cond-item.is, c.conds.invariant.few)

pub conds-preserved : goal.conds-preserved
conds-preserved g c =
    let readers = c.args.readers.now in
    let edges = g.G.Adjacent.edges readers.graph.now in
    let objects = g.G.ValueOf.objects readers.graph.now in
    let test = test_is readers.labels.now edges objects c.cond-item.result c.in_ok-test.test c.in_ok-test.ensures.labels c.in_ok-test.ensures.edges
    c.in_ok-test.ensures.objects c.in_ok-test.ensures.cond in
    record {
      few = omega (arith, few_left c.args.conds.now c.conds.cond-index c.cond-item.result c.conds-test.true c.cond-item.is, c.conds.invariant.few);
      made = tests_more readers.labels.now edges objects c.args.conds.now c.conds.cond-index c.cond-item.result c.args.tests.now.items c.conds.tests.items
          c.push.new.self.items c.in_ok-test.test c.conds-test.true c.cond-item.is test c.in_ok-push.ensures.items c.conds.invariant.made;
    }

pub returns : goal.returns
returns g c =
    let readers = c.args.readers.now in
    let edges = g.G.Adjacent.edges readers.graph.now in
    let objects = g.G.ValueOf.objects readers.graph.now in
    c.conds.invariant.made
    ∙ ap (λ (l : List BoundCond). c.args.tests.now.items ++ map (cond_over readers.labels.now edges objects) l) (take_all c.conds.cond-index c.args.conds.now c.conds-test.false)
