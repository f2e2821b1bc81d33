use Rattle.row_hints.proofs.narrowing.is_out.Goals as goal

pub returns : goal.returns
returns g c = c.in_ok-out.ensures
