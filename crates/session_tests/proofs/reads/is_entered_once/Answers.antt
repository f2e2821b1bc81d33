use Rattle.std.proofs.Common.{◌≤◌, arith}
use Rattle.std.specs.Prelude.{leb}
use Rattle.std.proofs.Math.Facts.{leb_yes}
use Rattle.std.proofs.lemmas.Float.{T_from_true}
use Rattle.session_tests.proofs.GivenLaws.{entering_pushed}
use Rattle.session_tests.proofs.reads.is_entered_once.Goals as goal

pub returns : goal.returns
returns g c = λ told.
    let edges = c.args.store.now.db.graph.edges in
    let ascend = c.graph-valid.ensures.valid.restorable.rooted.well_formed.ordered.edges_ascend in
    let count = entering_pushed edges c.links.result.now.links ascend c.links.ensures c.args.oid _ _ c.new-edges.ensures c.in_ok-parents.ensures.edges in
    let few : c.len.result ≤ 1 = leb_yes (T_from_true (leb c.len.result 1) told) in
    omega (arith, few, count, c.len.ensures)
