use Rattle.std.proofs.Common.{◌≡◌, ◌+◌, List, take, length, get_or, sym, ap, ◌∙◌, subst, arith}
use Rattle.std.specs.List.{sum_by}
use Rattle.std.proofs.lemmas.Result.{on_ok_weaker}
use Rattle.std.proofs.lemmas.List.{take_more}
use Rattle.std.proofs.lemmas.List.Sums.{sum_by_more}
use Rattle.std.proofs.Math.Seq.{take-length}
use Rattle.product_walk.specs.Types.{Oid}
use Rattle.product_walk.specs.inside.Ways.{GoesBy, FromSome, ExtendsByAll}
use Rattle.product_walk.proofs.LevelLaws.{some_more, in_order_extends}
use Rattle.product_walk.proofs.label_step.LabelStep.append_ends_of_level.Goals as goal

pub oids-preserved : goal.oids-preserved
oids-preserved g c =
    let edges = g.D.Arcs.edges c.args.self.now.direction in
    let leads = GoesBy (g.T.LabelTest.texts c.args.self.now.labels.now) (g.D.Arcs.goes edges) c.args.self.now.pattern.now in
    let level = c.args.level.now in
    let place = c.oids.oid-index in
    let first : Oid = record { 0 = 0 } in
    let oid : Oid = get_or level place first in
    record {
      grown =
          subst (λ (l : List Oid). ExtendsByAll (FromSome leads l) c.args.buf.now c.push_ends.new.buf) (sym (take_more level place first c.oids-test.true))
          (some_more leads (take place level) oid c.args.buf.now c.oids.buf c.push_ends.new.buf c.oids.invariant.grown c.in_ok-push_ends.ensures.ok);
      taken = omega (arith, c.oids.invariant.taken, c.in_ok-push_ends.ensures.steps, sum_by_more (g.D.Direction.reads edges) level place first c.oids-test.true);
    }

pub returns-clause-objects : goal.returns-clause-objects
returns-clause-objects g c =
    let edges = g.D.Arcs.edges c.args.self.now.direction in
    let leads = GoesBy (g.T.LabelTest.texts c.args.self.now.labels.now) (g.D.Arcs.goes edges) c.args.self.now.pattern.now in
    let level = c.args.level.now in
    let done : c.oids.oid-index ≡ length level = omega (arith, c.oids-test.false, c.oids.auto.oid-index-end) in
    let whole : take c.oids.oid-index level ≡ level = ap (λ n. take n level) done ∙ take-length level in
    let grown = subst (λ (l : List Oid). ExtendsByAll (FromSome leads l) c.args.buf.now c.oids.buf) whole c.oids.invariant.grown in
    in_order_extends c.put_in_order.result (FromSome leads level) c.args.buf.now c.oids.buf c.put_in_order.new.buf
    c.len-first.result c.len-first.ensures grown c.put_in_order.ensures.ok

pub returns-clause-steps : goal.returns-clause-steps
returns-clause-steps g c =
    let edges = g.D.Arcs.edges c.args.self.now.direction in
    let level = c.args.level.now in
    let done : c.oids.oid-index ≡ length level = omega (arith, c.oids-test.false, c.oids.auto.oid-index-end) in
    let whole : take c.oids.oid-index level ≡ level = ap (λ n. take n level) done ∙ take-length level in
    on_ok_weaker c.put_in_order.result (λ _. c.oids.invariant.taken ∙ ap (λ (l : List Oid). c.args.steps.now + sum_by (g.D.Direction.reads edges) l) whole)
    c.put_in_order.ensures.ok
