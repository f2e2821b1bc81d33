use Rattle.std.proofs.Common.{sym, arith}
use Rattle.std.proofs.lemmas.Bool.{OnTrue_from}
use Rattle.std.proofs.lemmas.Bool.Decides.{nat_tests}
use Rattle.edge_layers.proofs.CutLaws.{all_above}
use Rattle.edge_layers.proofs.edge_runs.begin_above.Goals as goal

pub returns-in-Some : goal.returns-in-Some
returns-in-Some c =
    OnTrue_from _ _ (λ yes. all_above c.args.edges.now c.requires c.in-Some.first.now (sym c.in-Some.ensures.value) c.args.oid.0 (grind (arith, nat_tests, yes)))
