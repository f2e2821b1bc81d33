use Rattle.std.proofs.Common.{sym}
use Rattle.std.proofs.lemmas.Bool.{OnTrue_from}
use Rattle.edge_layers.proofs.LayerLaws.{number_of}
use Rattle.edge_layers.proofs.CutLaws.{all_of}
use Rattle.edge_layers.proofs.edge_runs.leave.Goals as goal

pub returns-then-first-oid : goal.returns-then-first-oid
returns-then-first-oid c =
    OnTrue_from _ _ (λ yes.
    all_of c.args.edges.now c.requires c.in-Some.first.now c.in-Some-last.last.now (sym c.in-Some.ensures.value) (sym c.in-Some-last.ensures.value)
    c.args.oid.0 c.if-first-oid.true (number_of _ _ yes))
