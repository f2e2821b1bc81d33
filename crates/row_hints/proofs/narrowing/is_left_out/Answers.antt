use Rattle.std.proofs.Common.{sym, subst}
use Rattle.row_hints.specs.Told.{AreTold}
use Rattle.row_hints.proofs.narrowing.is_left_out.Goals as goal

pub is_told_out-requires : goal.is_told_out-requires
is_told_out-requires g c =
    subst (AreTold (g.S.Hints.hints c.args.place.now.sources.now)) (sym c.as_slice.ensures.value) c.requires.told

pub returns-then-is_told_out-clause-out : goal.returns-then-is_told_out-clause-out
returns-then-is_told_out-clause-out g c = λ yes. c.is_told_out.ensures c.if-is_told_out.true

pub returns-clause-out : goal.returns-clause-out
returns-clause-out g c = c.is_out.ensures
