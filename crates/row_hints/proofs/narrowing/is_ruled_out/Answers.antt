use Rattle.std.proofs.Common.{List, set, ap, ◌∙◌, arith}
use Rattle.row_hints.specs.Types.{Oid}
use Rattle.row_hints.proofs.ThinLaws.{out_fails}
use Rattle.row_hints.proofs.narrowing.is_ruled_out.Goals as goal

pub returns : goal.returns
returns g c =
    let place = c.args.place.now in
    out_fails (g.S.Hints.hints place.sources.now) place.known.now c.known_with-known.result place.slot place.row.now c.set.new.self c.args.oid
    c.rules_out.result (omega (arith, c.requires.slot, c.requires.eight))
    (c.set.ensures.oid ∙ ap (λ (r : List Oid). set r place.slot c.args.oid) c.copy-filled.ensures) c.known_with-known.ensures c.rules_out.ensures
