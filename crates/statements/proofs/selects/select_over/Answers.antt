use Rattle.std.proofs.Common.{◌≡◌, [], ◌∷◌, refl}
use Rattle.std.specs.Prelude.{IfSome}
use Rattle.std.proofs.lemmas.Result.{IfOk-weaker, IfErr-weaker}
use Rattle.lore_base.specs.Verdicts.{IsToldBy}
use Rattle.lorel_trees.specs.Trees.{select_tree, select}
use Rattle.lorel_bind.specs.Faults.{refusal_of}
use Rattle.lorel_bound.specs.Bound.{bound_tree}
use Rattle.answers.specs.Asked.{AreRows, AreTooMany}
use Rattle.select_rows.specs.Views.{IsRowOf}
use Rattle.statements.specs.Types.{Rows}
use Rattle.statements.specs.Types.refusals
use Rattle.statements.specs.Pasts.{database_over}
use Rattle.statements.specs.Statements.{Cause, cause_order, Executes}
use Rattle.statements.specs.Stops.{told}
use Rattle.statements.specs.inside.Stages.{ReadCause, bind_order}
use Rattle.statements.proofs.ExecutionLaws.{select_performs, select_told}
use Rattle.statements.proofs.OrderLaws.{told_left}
use Rattle.statements.proofs.ReadLaws.{bind_told}
use Rattle.statements.proofs.SelectLaws.{rows_answer, rows_clear, rows_told}
use Rattle.statements.proofs.StopLaws.{told_on}
use Rattle.statements.proofs.ViewLaws.{its_rows, its_stop}
use Rattle.statements.proofs.selects.select_over.Goals as goal

pub returns-in_err-bound-clause-refused : goal.returns-in_err-bound-clause-refused
returns-in_err-bound-clause-refused g c =
    let db = database_over c.args.store.now.db c.args.names.now (g.G.ValueOf.objects c.args.graph.now) (g.G.Adjacent.edges c.args.graph.now) in
    let query = select_tree c.args.query.now in
    let fault = c.in_err-bound.field-0.0 in
    told_on (Cause db (select query)) cause_order c.from_residual.result (refusal_of fault) c.from_residual.ensures.1
    (select_told db query (refusal_of fault) (told_left (ReadCause db query) bind_order (refusals.TooManyRows ∷ []) (refusal_of fault)
    (bind_told db query (refusal_of fault) c.in_err-bound.ensures.refused)))

pub returns-clause-ok : goal.returns-clause-ok
returns-clause-ok g c =
    let objects = g.G.ValueOf.objects c.args.graph.now in
    let edges = g.G.Adjacent.edges c.args.graph.now in
    let db = database_over c.args.store.now.db c.args.names.now objects edges in
    let query = select_tree c.args.query.now in
    let tree = bound_tree c.in_ok-bound.bound in
    let binds = c.in_ok-bound.ensures.binding in
    IfOk-weaker c.found_over-found.result (AreRows (IsRowOf db.labels edges objects tree)) (λ answer. Executes db (select query) (Rows answer) db)
    (λ rows all. let own = its_rows db tree db.labels db.graph refl refl rows all in
    select_performs db query rows (rows_clear db query tree binds c.in_ok-bound.ensures.accepted rows own) (rows_answer db query tree binds rows own))
    c.found_over-found.ensures.rows

pub returns-clause-refused : goal.returns-clause-refused
returns-clause-refused g c =
    let objects = g.G.ValueOf.objects c.args.graph.now in
    let edges = g.G.Adjacent.edges c.args.graph.now in
    let db = database_over c.args.store.now.db c.args.names.now objects edges in
    let query = select_tree c.args.query.now in
    let tree = bound_tree c.in_ok-bound.bound in
    IfErr-weaker c.found_over-found.result
    (λ stop. IfSome (told stop) (λ refusal. (refusal ≡ refusals.TooManyRows) × AreTooMany (IsRowOf db.labels edges objects tree)))
    (λ stop. IsToldBy (Cause db (select query)) cause_order (told stop))
    (λ stop h. select_told db query (told stop) (rows_told db query tree c.in_ok-bound.ensures.binding c.in_ok-bound.ensures.accepted (told stop)
    (its_stop db tree db.labels db.graph refl refl (told stop) h)))
    c.found_over-found.ensures.refused
