use Rattle.std.proofs.Common.{List, Option, IfSome, sym, subst}
use Rattle.index_traits.specs.PartRows.{AreAllThatFit}
use Rattle.row_hints.specs.Types.{Oid}
use Rattle.row_hints.specs.Thinned.{FailsWith, AreThinned, kept_of}
use Rattle.row_hints.proofs.FitLaws.{fitting_thins}
use Rattle.row_hints.proofs.ThinLaws.{thinned_then}
use Rattle.row_hints.proofs.narrowing.narrowed_by_row.Goals as goal

pub common-requires-clause-right : goal.common-requires-clause-right
common-requires-clause-right g c =
    let place = c.args.place.now in
    let fits = subst (λ (found : Option (List Oid)). IfSome found
    (AreAllThatFit (g.S.Hints.hints place.sources.now) place.known.now place.slot place.row.now)) c.in-Some.is c.in_ok-fit.ensures in
    fits.ascend

pub narrowed_by_slot-requires-2-clause-ascending : goal.narrowed_by_slot-requires-2-clause-ascending
narrowed_by_slot-requires-2-clause-ascending g c = c.in_ok-few.ensures.ascending

pub returns : goal.returns
returns g c =
    let place = c.args.place.now in
    let passes = (g.S.Hints.hints place.sources.now) in
    let fits = subst (λ (found : Option (List Oid)). IfSome found (AreAllThatFit passes place.known.now place.slot place.row.now)) c.in-Some.is c.in_ok-fit.ensures in
    subst (λ (l : List Oid). AreThinned (FailsWith passes place.known.now place.slot place.row.now) c.args.oids.now l) (sym c.kept_or.ensures)
    (thinned_then (FailsWith passes place.known.now place.slot place.row.now) c.args.oids.now c.in_ok-few.few (kept_of c.in_ok-fewer.fewer c.in_ok-few.few)
    (fitting_thins passes place.known.now place.slot place.row.now c.args.oids.now c.in-Some.fit c.in_ok-few.few fits c.in_ok-few.ensures)
    c.in_ok-fewer.ensures)
