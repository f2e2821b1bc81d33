use Rattle.std.proofs.Common.{◌↔◌, take, IsTrue}
use Rattle.lore_base.specs.Paths.{Fits}
use Rattle.product_walk.specs.inside.Ways.{IsFittingEnd, ExtendsByAll}
use Rattle.product_walk.proofs.label_step.push_fitting.Given as goal

abbrev pub invariant-edges : goal.invariant-edges
invariant-edges g l = record {
  told : IsTrue l.last.fits ↔ Fits (g.T.LabelTest.texts l.labels) l.pattern l.last.label;
  grown : ExtendsByAll (IsFittingEnd g.D.Arcs.far (g.T.LabelTest.texts l.labels) l.pattern (take l.edge-index l.edges)) l.initial.buf l.buf;
}
