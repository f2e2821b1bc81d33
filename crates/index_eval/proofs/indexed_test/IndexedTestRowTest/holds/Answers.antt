use Rattle.std.proofs.Common.{◌↔◌, IsTrue, IfOk, option_map, subst}
use Rattle.lorel_bound.specs.Bound.{bound_cond}
use Rattle.lorel_bound.specs.SlotRows.{HoldsOver}
use Rattle.lorel_eval.specs.Tests.{CondOver}
use Rattle.index_eval.specs.inside.Listing.{SplitsIn}
use Rattle.index_eval.proofs.SplitLaws.{holds_by}
use Rattle.index_eval.proofs.indexed_test.IndexedTestRowTest.holds.Goals as goal

pub split_holds-requires : goal.split_holds-requires
split_holds-requires g c =
    let test = c.self.inside.test in
    let splits : SplitsIn test.labels test.edges test.objects (option_map bound_cond test.cond) c.in-Some.split.listed c.in-Some.split.others.items =
    rw c.in-Some.is at c.self.invariant.1 in
    splits.ascend

pub returns-in-Some : goal.returns-in-Some
returns-in-Some g c =
    let test = c.self.inside.test in
    let splits : SplitsIn test.labels test.edges test.objects (option_map bound_cond test.cond) c.in-Some.split.listed c.in-Some.split.others.items =
    rw c.in-Some.is at c.self.invariant.1 in
    subst (λ (test : CondOver). IfOk c.split_holds.result (λ answer. IsTrue answer
    ↔ HoldsOver test.labels test.edges test.objects c.args.row.now (option_map bound_cond test.cond))) c.self.view_is
    (holds_by test c.args.row.now c.in-Some.split.listed c.in-Some.split.others.items c.split_holds.result splits c.split_holds.ensures)
