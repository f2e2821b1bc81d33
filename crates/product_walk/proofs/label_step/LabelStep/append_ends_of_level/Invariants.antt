use Rattle.std.proofs.Common.{◌≡◌, ◌+◌, take}
use Rattle.std.specs.List.{sum_by}
use Rattle.product_walk.specs.inside.Ways.{GoesBy, FromSome, ExtendsByAll}
use Rattle.product_walk.proofs.label_step.LabelStep.append_ends_of_level.Given as goal

abbrev pub invariant-oids : goal.invariant-oids
invariant-oids g l =
    let edges = g.D.Arcs.edges l.self.direction in
    let leads = GoesBy (g.T.LabelTest.texts l.self.labels.now) (g.D.Arcs.goes edges) l.self.pattern.now in
    record {
      grown : ExtendsByAll (FromSome leads (take l.oid-index l.level)) l.initial.buf l.buf;
      taken : l.steps ≡ l.initial.steps + sum_by (g.D.Direction.reads edges) (take l.oid-index l.level);
    }
