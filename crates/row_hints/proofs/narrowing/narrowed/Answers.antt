use Rattle.std.proofs.Common.{sym, subst}
use Rattle.row_hints.specs.Told.{AreTold}
use Rattle.row_hints.proofs.narrowing.narrowed.Goals as goal

pub narrowed_by_row-requires-clause-told : goal.narrowed_by_row-requires-clause-told
narrowed_by_row-requires-clause-told g c =
    subst (AreTold (g.S.Hints.hints c.args.place.now.sources.now)) (sym c.as_slice.ensures.value) c.requires.told
