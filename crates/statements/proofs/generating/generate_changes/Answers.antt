use Rattle.std.proofs.Common.{sym, ap, ◌∙◌}
use Rattle.std.specs.Int.{w64}
use Rattle.std.proofs.lemmas.Int.{to_z-of_z}
use Rattle.lore_base.specs.Databases.{OemGraph}
use Rattle.lorel_trees.specs.Trees.{generate}
use Rattle.oem_text.specs.Faults.{text_refusal}
use Rattle.statements.specs.Statements.{Cause, cause_order}
use Rattle.statements.proofs.StopLaws.{told_on}
use Rattle.statements.proofs.GenerateLaws.{numbers_told, numbers_list}
use Rattle.statements.proofs.generating.generate_changes.Goals as goal

pub returns-in_err-part-clause-refused : goal.returns-in_err-part-clause-refused
returns-in_err-part-clause-refused c =
    let is_seed = sym (to_z-of_z w64 c.args.seed c.ranges.seed) ∙ c.in-Some.ensures.seed.0 in
    let is_count = sym (to_z-of_z w64 c.args.count c.ranges.count) ∙ c.in-Some.ensures.count.0 in
    let number = c.next.ensures.number ∙ ap (λ (g : OemGraph). g.next) c.graph.ensures.graph in
    let db = c.args.store.now.db in
    let told = text_refusal c.in_err-part.field-0.0 in
    told_on (Cause db (generate c.args.seed c.args.count)) cause_order c.from_residual.result told c.from_residual.ensures.1
    (numbers_told db c.graph.ensures.valid c.args.seed c.args.count c.in-Some.seed c.in-Some.count is_seed is_count
    c.in-Some.ensures.seed.1 c.in-Some.ensures.count.1 c.in-Some.ensures.count.2 c.labels.result.now c.next.result c.labels.ensures number
    told c.in_err-part.ensures.err)

pub returns-clause-lists : goal.returns-clause-lists
returns-clause-lists c =
    let is_seed = sym (to_z-of_z w64 c.args.seed c.ranges.seed) ∙ c.in-Some.ensures.seed.0 in
    let is_count = sym (to_z-of_z w64 c.args.count c.ranges.count) ∙ c.in-Some.ensures.count.0 in
    let number = c.next.ensures.number ∙ ap (λ (g : OemGraph). g.next) c.graph.ensures.graph in
    numbers_list c.args.store.now.db c.graph.ensures.valid c.args.seed c.args.count c.in-Some.seed c.in-Some.count is_seed is_count
    c.in-Some.ensures.seed.1 c.in-Some.ensures.count.1 c.in-Some.ensures.count.2 c.labels.result.now c.next.result c.labels.ensures number
    c.in_ok-part.part c.in_ok-part.ensures.part c.in_ok-part.ensures.ok c.in_ok-name.name c.in_ok-name.ensures
    c.in_ok-loading.field-0 c.in_ok-loading.ensures
