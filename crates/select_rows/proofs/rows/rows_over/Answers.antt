use Rattle.std.proofs.Common.{Option, IfSome, IsTrue, subst}
use Rattle.lorel_bound.specs.declared.conditions.BoundCond.{BoundCond}
use Rattle.lorel_bound.specs.Bound.{bound_cond, bound_tree}
use Rattle.select_hints.specs.Hints.{AreHints}
use Rattle.select_rows.proofs.rows.rows_over.Goals as goal

pub rows_hinted-found-requires-clause-indexed : goal.rows_hinted-found-requires-clause-indexed
rows_hinted-found-requires-clause-indexed g c =
    c.requires.indexed (subst (λ (found : Option BoundCond). IfSome found (λ hints. IsTrue c.args.view.now.indexed)) c.in-Some.is c.in_ok-hints.ensures.indexed)

pub rows_hinted-found-requires-clause-hints : goal.rows_hinted-found-requires-clause-hints
rows_hinted-found-requires-clause-hints g c =
    subst (λ (found : Option BoundCond). IfSome found (λ hints. AreHints (bound_tree c.args.bound.now) (bound_cond hints))) c.in-Some.is c.in_ok-hints.ensures.hints
