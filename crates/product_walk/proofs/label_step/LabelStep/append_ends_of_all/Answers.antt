use Rattle.std.proofs.Common.{◌+◌, List, Contains, ap, ◌∙◌, subst, arith}
use Rattle.std.specs.Result.{OnOk}
use Rattle.std.specs.List.{sum_by}
use Rattle.std.proofs.lemmas.Result.{on_ok_weaker}
use Rattle.lore_base.specs.Lists.{ExtendsBy}
use Rattle.lore_base.specs.TargetSets.{ListsInOrder}
use Rattle.product_walk.specs.Types.{Oid}
use Rattle.product_walk.specs.inside.Ways.{GoesBy, FromSome}
use Rattle.product_walk.proofs.LevelLaws.{from_members, times_more}
use Rattle.product_walk.proofs.ProductLaws.{lists_same}
use Rattle.product_walk.proofs.label_step.LabelStep.append_ends_of_all.Goals as goal

pub returns-clause-objects : goal.returns-clause-objects
returns-clause-objects g c =
    let leads = GoesBy (g.T.LabelTest.texts c.args.self.now.labels.now) (g.D.Arcs.goes (g.D.Arcs.edges c.args.self.now.direction)) c.args.self.now.pattern.now in
    let oids = c.args.oids.now in
    let level = c.in_ok-level.level in
    let lists = c.in_ok-level.ensures in
    let new = c.append_ends_of_level.new.buf in
    lists_same c.append_ends_of_level.result (FromSome leads level) (FromSome leads oids) c.args.buf.now new (from_members leads level oids lists.exact)
    (subst (λ (l : List Oid). OnOk c.append_ends_of_level.result (ExtendsBy (ListsInOrder (FromSome leads l)) c.args.buf.now new)) c.as_slice.ensures
    c.append_ends_of_level.ensures.objects)

pub returns-clause-steps : goal.returns-clause-steps
returns-clause-steps g c =
    let reads = g.D.Direction.reads (g.D.Arcs.edges c.args.self.now.direction) in
    let oids = c.args.oids.now in
    let level = c.in_ok-level.level in
    let lists = c.in_ok-level.ensures in
    on_ok_weaker c.append_ends_of_level.result
    (λ spent. times_more 0 reads (Contains oids) c.args.steps.now c.args.steps.now c.append_ends_of_level.new.steps level (λ all whole. omega arith)
    (spent ∙ ap (λ (l : List Oid). c.args.steps.now + sum_by reads l) c.as_slice.ensures) lists.ascending (λ oid at. (lists.exact oid).0 at))
    c.append_ends_of_level.ensures.steps
