use Rattle.std.proofs.Common.{List, subst}
use Rattle.row_hints.specs.Types.{Oid}
use Rattle.row_hints.specs.Thinned.{FailsWith, AreThinned}
use Rattle.row_hints.proofs.ThinLaws.{thinned_not}
use Rattle.row_hints.proofs.narrowing.narrowed_by_tests.Goals as goal

pub returns-then-not-place : goal.returns-then-not-place
returns-then-not-place g c =
    let place = c.args.place.now in
    thinned_not (FailsWith (g.S.Hints.hints place.sources.now) place.known.now place.slot place.row.now) c.args.oids.now c.requires.ascending

pub returns-then-not-is_worth : goal.returns-then-not-is_worth
returns-then-not-is_worth g c =
    let place = c.args.place.now in
    thinned_not (FailsWith (g.S.Hints.hints place.sources.now) place.known.now place.slot place.row.now) c.args.oids.now c.requires.ascending

pub returns : goal.returns
returns g c =
    let place = c.args.place.now in
    subst (λ (l : List Oid). AreThinned (FailsWith (g.S.Hints.hints place.sources.now) place.known.now place.slot place.row.now) l c.in_ok-kept.kept)
    c.as_slice-2.ensures c.in_ok-kept.ensures
