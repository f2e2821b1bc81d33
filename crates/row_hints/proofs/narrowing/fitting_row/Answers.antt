use Rattle.row_hints.proofs.narrowing.fitting_row.Goals as goal

pub returns : goal.returns
returns g c = c.fitting.ensures
