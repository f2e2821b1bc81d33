use Rattle.std.proofs.Common.{List, Option, IfOk, IfSome, option_map, sym, subst}
use Rattle.std.proofs.lemmas.Result.{IfOk-weaker}
use Rattle.index_traits.specs.PartRows.{AreAllThatFit}
use Rattle.lorel_bound.specs.Bound.{bound_cond}
use Rattle.lorel_bound.specs.SlotRows.{HoldsOver}
use Rattle.lorel_eval.specs.Tests.{CondOver}
use Rattle.index_eval.specs.Types.{Oid}
use Rattle.index_eval.specs.inside.Listing.{SplitsIn}
use Rattle.index_eval.proofs.SplitLaws.{fits_listed}
use Rattle.index_eval.proofs.indexed_test.IndexedTestRowTest.fitting.Goals as goal

pub returns-then-is_asked : goal.returns-then-is_asked
returns-then-is_asked g c =
    let test = c.self.inside.test in
    let splits : SplitsIn test.labels test.edges test.objects (option_map bound_cond test.cond) c.in-Some.split.listed c.in-Some.split.others.items =
    rw c.in-Some.is at c.self.invariant.1 in
    let fits = fits_listed test c.args.known.now c.args.slot c.args.row.now c.in-Some.split.listed c.in-Some.split.others.items splits
    (c.is_asked.ensures c.if-is_asked.true) in
    subst (λ (test : CondOver). IfOk c.copied.result (λ found. IfSome found
    (AreAllThatFit (λ slots. HoldsOver test.labels test.edges test.objects slots (option_map bound_cond test.cond)) c.args.known.now c.args.slot c.args.row.now))) c.self.view_is
    (IfOk-weaker c.copied.result _ _ (λ found is. subst (λ (o : Option (List Oid)). IfSome o
    (AreAllThatFit (λ slots. HoldsOver test.labels test.edges test.objects slots (option_map bound_cond test.cond)) c.args.known.now c.args.slot c.args.row.now))
    (sym is) fits) c.copied.ensures)
