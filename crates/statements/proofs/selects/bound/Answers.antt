use Rattle.std.proofs.Common.{ℕ, List, ap, subst, ◌∙◌}
use Rattle.lore_base.specs.Databases.{OemGraph}
use Rattle.lorel_trees.specs.Trees.{select_tree}
use Rattle.lorel_bound.specs.Bound.{bound_tree}
use Rattle.lorel_bind.specs.Bindings.{IsBinding}
use Rattle.lorel_bind.specs.Faults.{refusal_of}
use Rattle.lorel_bind.specs.Refusals.{IsRefusedBy}
use Rattle.statements.specs.Types.{Oid}
use Rattle.statements.specs.inside.Stages.{ReadCause, bind_order}
use Rattle.statements.proofs.PlanLaws.{named_starts}
use Rattle.statements.proofs.ReadLaws.{bind_told}
use Rattle.statements.proofs.StopLaws.{told_on}
use Rattle.statements.proofs.selects.bound.Goals as goal

pub returns-in_err-bind-clause-refused : goal.returns-in_err-bind-clause-refused
returns-in_err-bind-clause-refused c =
    let db = c.args.store.now.db in
    let query = select_tree c.args.query.now in
    let fault = c.in_err-bind.field-0.0 in
    let names = c.names.ensures ∙ ap (λ (g : OemGraph). g.names) c.graph.ensures.graph in
    told_on (ReadCause db query) bind_order c.from_residual.result (refusal_of fault) c.from_residual.ensures.1
    (bind_told db query (refusal_of fault)
    (subst (λ (l : List (List ℕ × Oid)). IsRefusedBy l query fault) names c.in_err-bind.ensures.refused))

pub returns-clause-named : goal.returns-clause-named
returns-clause-named c =
    let query = select_tree c.args.query.now in
    let tree = bound_tree c.in_ok-bind.field-0 in
    let names = c.names.ensures ∙ ap (λ (g : OemGraph). g.names) c.graph.ensures.graph in
    named_starts c.args.store.now.db.graph.names query tree (subst (λ (l : List (List ℕ × Oid)). IsBinding l query tree) names c.in_ok-bind.ensures.binding)
