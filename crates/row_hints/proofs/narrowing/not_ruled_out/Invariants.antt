use Rattle.std.proofs.Common.{take}
use Rattle.row_hints.specs.Thinned.{FailsWith, AreThinned}
use Rattle.row_hints.proofs.narrowing.not_ruled_out.Given as goal

abbrev pub invariant-oids : goal.invariant-oids
invariant-oids g l =
    AreThinned (FailsWith (g.S.Hints.hints l.place.sources.now) l.place.known.now l.place.slot l.place.row.now) (take l.oid-index l.oids) l.kept
