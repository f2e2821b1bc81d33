use Rattle.std.proofs.Common.{subst}
use Rattle.std.specs.Result.{OnOk}
use Rattle.product_walk.specs.inside.Ways.{IsFittingEnd, GoesBy, ExtendsByAll}
use Rattle.product_walk.proofs.LevelLaws.{fitting_goes, all_alike}
use Rattle.product_walk.proofs.label_step.LabelStep.push_ends.Goals as goal

pub returns-clause-ok : goal.returns-clause-ok
returns-clause-ok g c =
    let labels = g.T.LabelTest.texts c.args.self.now.labels.now in
    let edges = g.D.Arcs.edges c.args.self.now.direction in
    let goes = g.D.Arcs.goes edges in
    let far = g.D.Arcs.far in
    let pattern = c.args.self.now.pattern.now in
    let read = c.read.new.buf in
    let arcs = c.in_ok-read.ensures.arcs in
    let grown = subst (λ l. OnOk c.push_fitting.result (ExtendsByAll (IsFittingEnd far labels pattern l) c.args.buf.now c.push_fitting.new.buf)) c.as_slice.ensures c.push_fitting.ensures.ok in
    all_alike c.push_fitting.result (IsFittingEnd far labels pattern read) (GoesBy labels goes pattern c.args.from) c.args.buf.now c.push_fitting.new.buf
    (fitting_goes labels goes far read pattern c.args.from arcs) grown
