use Rattle.std.proofs.Common.{◌≡◌, [], sym, subst, ◌∙◌, true≢false}
use Rattle.lorel_trees.specs.declared.statements.Statement.{Statement}
use Rattle.lorel_trees.specs.Trees.{rooted_tree, literal_tree, tail_tree, statement_tree, assign, add_link}
use Rattle.updates.specs.Effects.{targets, assigning, linking}
use Rattle.updates.proofs.StatementLaws.{some_rows, IsAnswer, plain_answer, literal_answer}
use Rattle.updates.proofs.update_changes.changes_of.Goals as goal

pub returns-in-AddNew-clause-ok : goal.returns-in-AddNew-clause-ok
returns-in-AddNew-clause-ok c =
    let table = c.args.labels.now in
    let graph = c.args.graph.now.graph in
    let rows = c.args.rows.now in
    let told = subst (λ (s : Statement). IsAnswer table graph (statement_tree s) rows c.add_copies.result) (sym c.in-AddNew.is)
    (literal_answer table graph (rooted_tree c.in-AddNew.target) c.in-AddNew.label (literal_tree c.in-AddNew.literal) (tail_tree c.in-AddNew.tail) rows
    c.add_copies.result c.add_copies.ensures.same c.add_copies.ensures.ok c.add_copies.ensures.err) in
    told.ok

pub returns-in-AddNew-clause-err : goal.returns-in-AddNew-clause-err
returns-in-AddNew-clause-err c =
    let table = c.args.labels.now in
    let graph = c.args.graph.now.graph in
    let rows = c.args.rows.now in
    let told = subst (λ (s : Statement). IsAnswer table graph (statement_tree s) rows c.add_copies.result) (sym c.in-AddNew.is)
    (literal_answer table graph (rooted_tree c.in-AddNew.target) c.in-AddNew.label (literal_tree c.in-AddNew.literal) (tail_tree c.in-AddNew.tail) rows
    c.add_copies.result c.add_copies.ensures.same c.add_copies.ensures.ok c.add_copies.ensures.err) in
    told.err

pub returns-in-Assign : goal.returns-in-Assign
returns-in-Assign c =
    let table = c.args.labels.now in
    let graph = c.args.graph.now.graph in
    let rows = c.args.rows.now in
    let tree = assign (rooted_tree c.in-Assign.target) c.in-Assign.value (tail_tree c.in-Assign.tail) in
    let some = λ (none : rows ≡ []). true≢false (sym (c.is_empty.ensures.1 none) ∙ c.if-is_empty.false) in
    let told = subst (λ (s : Statement). IsAnswer table graph (statement_tree s) rows c.assign.result) (sym c.in-Assign.is)
    (plain_answer table graph tree rows c.assign.result (assigning graph.objects c.in-Assign.value (targets rows)) tt
    (some_rows table graph tree rows some) c.assign.ensures.same c.assign.ensures.ok c.assign.ensures.err) in
    record { same = told.same; ok = told.ok; err = told.err }

pub returns-in-AddLink : goal.returns-in-AddLink
returns-in-AddLink c =
    let table = c.args.labels.now in
    let graph = c.args.graph.now.graph in
    let rows = c.args.rows.now in
    let tree = add_link (rooted_tree c.in-AddLink.target) c.in-AddLink.label (rooted_tree c.in-AddLink.right) (tail_tree c.in-AddLink.tail) in
    let some = λ (none : rows ≡ []). true≢false (sym (c.is_empty.ensures.1 none) ∙ c.if-is_empty.false) in
    let told = subst (λ (s : Statement). IsAnswer table graph (statement_tree s) rows c.link.result) (sym c.in-AddLink.is)
    (plain_answer table graph tree rows c.link.result (linking table c.in-AddLink.label rows) tt
    (some_rows table graph tree rows some) c.link.ensures.same c.link.ensures.ok c.link.ensures.err) in
    record { same = told.same; ok = told.ok; err = told.err }
