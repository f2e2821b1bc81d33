use Rattle.std.proofs.Common.{List, sym, subst}
use Rattle.row_hints.specs.Types.{Oid, Fits}
use Rattle.row_hints.specs.Thinned.{FailsWith, AreThinned, kept_of}
use Rattle.row_hints.specs.Told.{AreAllInSlot}
use Rattle.row_hints.proofs.FitLaws.{told_thins}
use Rattle.row_hints.proofs.ThinLaws.{thinned_then}
use Rattle.row_hints.proofs.narrowing.narrowed_by_slot.Goals as goal

pub common-requires-clause-right : goal.common-requires-clause-right
common-requires-clause-right g c =
    let place = c.args.place.now in
    let told : AreAllInSlot (g.S.Hints.hints place.sources.now) place.slot c.in-Some.fit.now =
    c.requires.told place.slot (Fits c.in-Some.fit.now) c.in-Some.ensures in
    told.ascend

pub narrowed_by_tests-requires-2-clause-ascending : goal.narrowed_by_tests-requires-2-clause-ascending
narrowed_by_tests-requires-2-clause-ascending g c = c.in_ok-few.ensures.ascending

pub returns : goal.returns
returns g c =
    let place = c.args.place.now in
    let passes = (g.S.Hints.hints place.sources.now) in
    let told : AreAllInSlot passes place.slot c.in-Some.fit.now = c.requires.told place.slot (Fits c.in-Some.fit.now) c.in-Some.ensures in
    subst (λ (l : List Oid). AreThinned (FailsWith passes place.known.now place.slot place.row.now) c.args.oids.now l) (sym c.kept_or.ensures)
    (thinned_then (FailsWith passes place.known.now place.slot place.row.now) c.args.oids.now c.in_ok-few.few (kept_of c.in_ok-fewer.fewer c.in_ok-few.few)
    (told_thins passes place.known.now place.slot place.row.now c.args.oids.now c.in-Some.fit.now c.in_ok-few.few told c.in_ok-few.ensures)
    c.in_ok-fewer.ensures)
