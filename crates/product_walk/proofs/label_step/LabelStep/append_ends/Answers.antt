use Rattle.product_walk.specs.inside.Ways.{GoesBy}
use Rattle.product_walk.proofs.LevelLaws.{in_order_extends}
use Rattle.product_walk.proofs.label_step.LabelStep.append_ends.Goals as goal

pub returns-clause-objects : goal.returns-clause-objects
returns-clause-objects g c =
    let labels = g.T.LabelTest.texts c.args.self.now.labels.now in
    let goes = g.D.Arcs.goes (g.D.Arcs.edges c.args.self.now.direction) in
    in_order_extends c.put_in_order.result (GoesBy labels goes c.args.self.now.pattern.now c.args.from) c.args.buf.now c.push_ends.new.buf c.put_in_order.new.buf
    c.len-first.result c.len-first.ensures c.in_ok-push_ends.ensures.ok c.put_in_order.ensures.ok
