use Rattle.std.proofs.Common.{◌↔◌, IsTrue, IfOk, ap, subst, option_map}
use Rattle.std.specs.Option.{option_copied}
use Rattle.lorel_bound.specs.Bound.{bound_cond}
use Rattle.lorel_bound.specs.SlotRows.{HoldsOver}
use Rattle.lorel_eval.specs.Tests.{CondOver}
use Rattle.lorel_eval.specs.inside.Ready.{ready_tree}
use Rattle.lorel_eval.proofs.TestLaws.{stands_for, tells_by}
use Rattle.lorel_eval.proofs.bound_test.TestRowTest.holds.Goals as goal

pub returns-in-Some-ready : goal.returns-in-Some-ready
returns-in-Some-ready g c =
    let cond = option_copied c.self.inside.cond in
    let over : CondOver = record {
      labels = c.self.inside.labels.now;
      edges = g.A.Adjacent.edges c.self.inside.graph.now;
      objects = g.G.ValueOf.objects c.self.inside.values.now;
      cond = cond;
    } in
    let there = ap option_copied c.in-Some.is in
    subst (λ (test : CondOver). IfOk c.cond_holds.result (λ answer. IsTrue answer
    ↔ HoldsOver test.labels test.edges test.objects c.args.row.now (option_map bound_cond test.cond))) c.self.view_is
    (tells_by over c.args.row.now c.in-Some.cond.now (ready_tree c.in-Some-ready.ready) c.cond_holds.result there
    (stands_for over.labels cond c.self.inside.ready c.in-Some.cond.now c.in-Some-ready.ready c.self.invariant.1 c.in-Some-ready.is there) c.cond_holds.ensures)

pub returns-in_ok-ready-in-None : goal.returns-in_ok-ready-in-None
returns-in_ok-ready-in-None g c =
    let over : CondOver = record {
      labels = c.self.inside.labels.now;
      edges = g.A.Adjacent.edges c.self.inside.graph.now;
      objects = g.G.ValueOf.objects c.self.inside.values.now;
      cond = option_copied c.self.inside.cond;
    } in
    subst (λ (test : CondOver). IfOk c.cond_holds-in-None.result (λ answer. IsTrue answer
    ↔ HoldsOver test.labels test.edges test.objects c.args.row.now (option_map bound_cond test.cond))) c.self.view_is
    (tells_by over c.args.row.now c.in-Some.cond.now (ready_tree c.in_ok-ready-in-None.ready) c.cond_holds-in-None.result
    (ap option_copied c.in-Some.is) c.in_ok-ready-in-None.ensures c.cond_holds-in-None.ensures)
