use Rattle.std.proofs.Common.{◌≡◌, ℕ, List, inl, subst}
use Rattle.std.specs.Prelude.{IfOk, IfErr, IfSome}
use Rattle.std.proofs.lemmas.Bool.{false≢true}
use Rattle.lorel_bound.specs.Bound.{bound_tree}
use Rattle.answers.specs.Asked.{AreRows, AreTooMany}
use Rattle.select_rows.specs.Views.{IsRowOf}
use Rattle.statements.specs.Types.refusals
use Rattle.statements.specs.Stops.{told}
use Rattle.statements.proofs.ForwardLaws.{forward_walks}
use Rattle.statements.proofs.StopLaws.{answered_rows, answered_stop}
use Rattle.statements.proofs.selects.found_over.Goals as goal

pub rows_over-requires-clause-planned : goal.rows_over-requires-clause-planned
rows_over-requires-clause-planned g c = c.in_ok-plan.ensures.steps c.labels-labels.result.now

pub rows_over-requires-clause-fits : goal.rows_over-requires-clause-fits
rows_over-requires-clause-fits g c =
    inl (forward_walks c.labels-labels.result.now (bound_tree c.args.bound.now) c.in_ok-plan.plan c.in_ok-plan.ensures.kind
    (c.in_ok-plan.ensures.steps c.labels-labels.result.now))

pub rows_over-requires-clause-indexed : goal.rows_over-requires-clause-indexed
rows_over-requires-clause-indexed g c = λ yes. absurd (false≢true yes)

pub returns-clause-rows : goal.returns-clause-rows
returns-clause-rows g c =
    let edges = g.G.Adjacent.edges c.args.graph.now in
    let objects = g.G.ValueOf.objects c.args.graph.now in
    let tree = bound_tree c.args.bound.now in
    subst (λ (l : List (List ℕ)). IfOk c.answer_of.result (AreRows (IsRowOf l edges objects tree))) c.labels-labels.ensures
    (answered_rows c.rows_over.result (IsRowOf c.labels-labels.result.now edges objects tree) c.answer_of.result c.answer_of.ensures.ok c.rows_over.ensures.rows)

pub returns-clause-refused : goal.returns-clause-refused
returns-clause-refused g c =
    let edges = g.G.Adjacent.edges c.args.graph.now in
    let objects = g.G.ValueOf.objects c.args.graph.now in
    let tree = bound_tree c.args.bound.now in
    subst (λ (l : List (List ℕ)). IfErr c.answer_of.result (λ stop. IfSome (told stop) (λ refusal. (refusal ≡ refusals.TooManyRows)
    × AreTooMany (IsRowOf l edges objects tree)))) c.labels-labels.ensures
    (answered_stop c.rows_over.result (IsRowOf c.labels-labels.result.now edges objects tree) c.answer_of.result c.answer_of.ensures.refused c.rows_over.ensures.rows)
