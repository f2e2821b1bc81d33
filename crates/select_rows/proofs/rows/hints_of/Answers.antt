use Rattle.std.proofs.Common.{Option, None, Some, IfSome, Result, Ok, Err, IfOk}
use Rattle.select_rows.proofs.rows.hints_of.Goals as goal

-- what holds anyway holds of what is found
anyway : {T E : Type 0} (result : Result (Option T) E) (Holds : Type 0) → Holds → IfOk result (λ found. IfSome found (λ one. Holds))
anyway (Ok None) Holds h = tt
anyway (Ok (Some one)) Holds h = h
anyway (Err error) Holds h = tt

pub returns-clause-hints : goal.returns-clause-hints
returns-clause-hints g c = c.hints_for.ensures

pub returns-clause-indexed : goal.returns-clause-indexed
returns-clause-indexed g c = anyway c.hints_for.result _ c.if-not-view.false
