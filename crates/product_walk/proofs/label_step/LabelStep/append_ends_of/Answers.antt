use Rattle.std.proofs.Common.{Contains, get_or, arith}
use Rattle.std.proofs.lemmas.Result.{on_ok_weaker}
use Rattle.std.proofs.lemmas.List.Elements.{Contains-get_or}
use Rattle.product_walk.specs.Types.{Oid}
use Rattle.product_walk.specs.inside.Ways.{GoesBy, FromSome}
use Rattle.product_walk.proofs.LevelLaws.{from_only}
use Rattle.product_walk.proofs.ProductLaws.{lists_same}
use Rattle.product_walk.proofs.WayLaws.{one_taken}
use Rattle.product_walk.proofs.label_step.LabelStep.append_ends_of.Goals as goal

pub returns-in-len1-clause-objects : goal.returns-in-len1-clause-objects
returns-in-len1-clause-objects g c =
    let leads = GoesBy (g.T.LabelTest.texts c.args.self.now.labels.now) (g.D.Arcs.goes (g.D.Arcs.edges c.args.self.now.direction)) c.args.self.now.pattern.now in
    let oids = c.args.oids.now in
    let other : Oid = record { 0 = 0 } in
    let oid = get_or oids 0 other in
    lists_same c.append_ends.result (leads oid) (FromSome leads oids) c.args.buf.now c.append_ends.new.buf
    (from_only leads oids other (omega (arith, c.in-len1.len_below, c.in-len1.len_at_least))) c.append_ends.ensures.objects

pub returns-in-len1-clause-steps : goal.returns-in-len1-clause-steps
returns-in-len1-clause-steps g c =
    let reads = g.D.Direction.reads (g.D.Arcs.edges c.args.self.now.direction) in
    let oids = c.args.oids.now in
    let other : Oid = record { 0 = 0 } in
    let oid = get_or oids 0 other in
    on_ok_weaker c.append_ends.result
    (one_taken reads (Contains oids) oid c.args.steps.now c.append_ends.new.steps (Contains-get_or oids 0 other (omega (arith, c.in-len1.len_at_least))))
    c.append_ends.ensures.steps
