use Rattle.lorel_trees.specs.Trees.{literal_tree, load}
use Rattle.oem_text.specs.Faults.{text_refusal}
use Rattle.std.proofs.Common.{ap, ◌∙◌}
use Rattle.lore_base.specs.Databases.{OemGraph}
use Rattle.statements.specs.Statements.{Cause, cause_order}
use Rattle.statements.proofs.StopLaws.{told_on}
use Rattle.statements.proofs.LoadLaws.{part_told, part_lists}
use Rattle.statements.proofs.loads.load_changes.Goals as goal

pub returns-in_err-part-clause-refused : goal.returns-in_err-part-clause-refused
returns-in_err-part-clause-refused c =
    let db = c.args.store.now.db in
    let name = c.args.name.now in
    let literal = literal_tree c.args.literal.now in
    let number = c.next.ensures.number ∙ ap (λ (g : OemGraph). g.next) c.graph.ensures.graph in
    let told = text_refusal c.in_err-part.field-0.0 in
    told_on (Cause db (load name literal)) cause_order c.from_residual.result told c.from_residual.ensures.1
    (part_told db c.graph.ensures.valid name literal c.labels.result.now c.next.result c.labels.ensures number told c.in_err-part.ensures.err)

pub returns-clause-lists : goal.returns-clause-lists
returns-clause-lists c =
    let number = c.next.ensures.number ∙ ap (λ (g : OemGraph). g.next) c.graph.ensures.graph in
    part_lists c.args.store.now.db c.graph.ensures.valid c.args.name.now (literal_tree c.args.literal.now) c.labels.result.now c.next.result
    c.labels.ensures number c.in_ok-part.part c.in_ok-part.ensures.part c.in_ok-part.ensures.ok c.in_ok-loading.field-0 c.in_ok-loading.ensures
