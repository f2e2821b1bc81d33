use Rattle.std.proofs.Common.{◌≡◌, ◌++◌, List, drop, ap, ◌∙◌, subst}
use Rattle.std.specs.List.{Contains}
use Rattle.std.proofs.lemmas.Result.{on_ok_weaker}
use Rattle.lore_base.specs.TargetSets.{ListsInOrder}
use Rattle.product_walk.specs.Types.{Oid}
use Rattle.product_walk.specs.inside.StateSets.{same_oid}
use Rattle.product_walk.proofs.ProductLaws.{lists_sorted}
use Rattle.product_walk.proofs.LevelLaws.{err_extends}
use Rattle.product_walk.proofs.label_step.make_set.Goals as goal

pub returns-in_err-append-clause-err : goal.returns-in_err-append-clause-err
returns-in_err-append-clause-err c = err_extends c.from_residual.result c.args.from c.args.buf.now

pub returns-clause-ok : goal.returns-clause-ok
returns-clause-ok c =
    let tail = drop c.args.from c.args.buf.now in
    let taken : c.append.new.self ≡ tail =
    c.in_ok-append.ensures.ok ∙ ap (λ (l : List Oid). l ++ c.tail_of.result.now) c.new-set.ensures ∙ c.tail_of.ensures in
    let sorted = c.sort_set.new.self in
    let lists : ListsInOrder (Contains tail) sorted =
    subst (λ (l : List Oid). ListsInOrder (Contains l) sorted) taken (lists_sorted c.append.new.self sorted c.sort_set.ensures.ascend (c.sort_set.ensures.members same_oid)) in
    on_ok_weaker c.append-2.result (λ is. (sorted, is ∙ ap (λ l. c.cut.new.self ++ l) c.as_slice.ensures ∙ ap (λ l. l ++ sorted) c.cut.ensures, lists)) c.append-2.ensures.ok
