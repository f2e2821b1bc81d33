use Rattle.std.proofs.Common.{◌≡◌, take, length, get_or, sym, ap, ◌∙◌, subst, arith}
use Rattle.std.proofs.lemmas.List.{take_more}
use Rattle.std.proofs.Math.Seq.{take-length}
use Rattle.product_walk.specs.Types.{Edge}
use Rattle.product_walk.specs.inside.Ways.{IsFittingEnd, ExtendsByAll}
use Rattle.product_walk.proofs.LevelLaws.{ends_more}
use Rattle.product_walk.proofs.label_step.push_fitting.Goals as goal

pub edges-preserved : goal.edges-preserved
edges-preserved g c =
    let labels = g.T.LabelTest.texts c.args.labels.now in
    let first : Edge = record { parent = record { 0 = 0 }; label = record { 0 = 0 }; child = record { 0 = 0 } } in
    let edge : Edge = get_or c.args.edges.now c.edges.edge-index first in
    record {
      told = c.fit_of-last.ensures.fits;
      grown =
          subst (λ l. ExtendsByAll (IsFittingEnd g.D.Arcs.far labels c.args.pattern.now l) c.args.buf.now c.push_if.new.buf)
          (sym (take_more c.args.edges.now c.edges.edge-index first c.edges-test.true))
          (ends_more g.D.Arcs.far labels c.args.pattern.now (take c.edges.edge-index c.args.edges.now) edge c.far_end.result c.fit_of-last.result.fits c.fit_of-last.result.label
          c.args.buf.now c.edges.buf c.push_if.new.buf c.far_end.ensures c.fit_of-last.ensures.label c.fit_of-last.ensures.fits c.edges.invariant.grown c.in_ok-push_if.ensures.ok);
    }

pub returns-clause-ok : goal.returns-clause-ok
returns-clause-ok g c =
    let labels = g.T.LabelTest.texts c.args.labels.now in
    let done : c.edges.edge-index ≡ length c.args.edges.now = omega (arith, c.edges-test.false, c.edges.auto.edge-index-end) in
    subst (λ l. ExtendsByAll (IsFittingEnd g.D.Arcs.far labels c.args.pattern.now l) c.args.buf.now c.edges.buf)
    (ap (λ n. take n c.args.edges.now) done ∙ take-length c.args.edges.now) c.edges.invariant.grown
