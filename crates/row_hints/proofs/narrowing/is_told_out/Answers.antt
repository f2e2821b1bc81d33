use Rattle.std.proofs.Common.{sym, ◌∙◌, true≢false}
use Rattle.row_hints.specs.Types.{Fits}
use Rattle.row_hints.specs.Told.{AreAllInSlot}
use Rattle.row_hints.proofs.FitLaws.{told_fails}
use Rattle.row_hints.proofs.narrowing.is_told_out.Goals as goal

pub is_among-requires : goal.is_among-requires
is_among-requires g c =
    let place = c.args.place.now in
    let told : AreAllInSlot (g.S.Hints.hints place.sources.now) place.slot c.in-Some.fit.now =
    c.requires place.slot (Fits c.in-Some.fit.now) c.in-Some.ensures in
    told.ascend

pub returns : goal.returns
returns g c =
    let place = c.args.place.now in
    let told : AreAllInSlot (g.S.Hints.hints place.sources.now) place.slot c.in-Some.fit.now =
    c.requires place.slot (Fits c.in-Some.fit.now) c.in-Some.ensures in
    λ yes. told_fails (g.S.Hints.hints place.sources.now) place.known.now place.slot place.row.now c.in-Some.fit.now c.args.oid told
    (λ at. true≢false (sym (c.is_among.ensures.1 at) ∙ c.if-is_among.false))
