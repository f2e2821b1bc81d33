use Rattle.std.proofs.Common.{IsTrue, IfOk, subst, option_map}
use Rattle.std.specs.Option.{option_copied}
use Rattle.index_traits.specs.PartRows.{NonePasses}
use Rattle.lorel_bound.specs.Bound.{bound_cond}
use Rattle.lorel_bound.specs.SlotRows.{HoldsOver}
use Rattle.lorel_eval.specs.Tests.{CondOver}
use Rattle.lorel_eval.proofs.TestLaws.{none_by}
use Rattle.lorel_eval.proofs.bound_test.TestRowTest.rules_out.Goals as goal

pub returns : goal.returns
returns g c =
    let over : CondOver = record {
      labels = c.self.inside.labels.now;
      edges = g.A.Adjacent.edges c.self.inside.graph.now;
      objects = g.G.ValueOf.objects c.self.inside.values.now;
      cond = option_copied c.self.inside.cond;
    } in
    subst (λ (test : CondOver). IfOk c.fails_early.result (λ answer. IsTrue answer
    → NonePasses (λ slots. HoldsOver test.labels test.edges test.objects slots (option_map bound_cond test.cond)) c.args.known.now c.args.row.now)) c.self.view_is
    (none_by over c.args.row.now c.args.known.now c.self.inside.ready c.in-Some.ready c.fails_early.result c.self.invariant.1 c.in-Some.is c.fails_early.ensures)
