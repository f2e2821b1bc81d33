use Rattle.std.proofs.Common.{◌≡◌, sym, ap, subst, IfOk}
use Rattle.std.specs.Prelude.{ℤ}
use Rattle.std.specs.Int.{w64, cast_signed, cast_unsigned}
use Rattle.std.proofs.lemmas.Int.{to_z-of_z}
use Rattle.lore_store.specs.Stores.{RoomyDatabase}
use Rattle.lorel_trees.specs.declared.statements.Statement.{Statement}
use Rattle.lorel_trees.specs.Trees.{select, explain, guide, browse, sample, set_nodes, dump, restore, select_tree, statement_tree}
use Rattle.lorel_trees.specs.Sound.{IsSound}
use Rattle.lorel_trees.proofs.FormLaws.{sound_statement}
use Rattle.statements.specs.Statements.{Executes}
use Rattle.statements.specs.Uncounted.{ReadsNoEdge}
use Rattle.statements.specs.Stops.{OnReply}
use Rattle.statements.proofs.ShallowLaws.{sound_shallow, explain_shallow}
use Rattle.statements.proofs.ExecutionLaws.{unchanged, replied, replied_on, on_err_weaker}
use Rattle.statements.proofs.GuideStatementLaws.{shown, shown_told, limited, limited_told}
use Rattle.statements.proofs.DumpStatementLaws.{dumped, dumped_told}
use Rattle.statements.proofs.execution.execute.Goals as goal

pub select-requires : goal.select-requires
select-requires g c = sound_shallow (select_tree c.in-Select.query) (subst (λ (s : Statement). IsSound (statement_tree s)) c.in-Select.is c.requires.sound)

pub plan_shown-requires : goal.plan_shown-requires
plan_shown-requires g c = explain_shallow (select_tree c.in-Explain.query) (subst (λ (s : Statement). IsSound (statement_tree s)) c.in-Explain.is c.requires.sound)

pub returns-in-Select-clause-ok : goal.returns-in-Select-clause-ok
returns-in-Select-clause-ok g c =
    let db = c.args.store.now.db in
    let done = c.select.result in
    subst (λ (s : Statement). IfOk c.reply_of.result (λ reply. Executes db (statement_tree s) reply db)) (sym c.in-Select.is)
    (replied db db (select (select_tree c.in-Select.query)) done c.reply_of.result c.reply_of.ensures c.select.ensures.ok (unchanged done db)
    c.select.ensures.refused)

pub returns-in-Select-clause-uncounted : goal.returns-in-Select-clause-uncounted
returns-in-Select-clause-uncounted g c =
    let Same = c.select.new.steps ≡ c.args.steps.now in
    let db = c.args.store.now.db in
    replied_on c.select.result c.reply_of.result c.reply_of.ensures (ReadsNoEdge db (statement_tree c.args.statement.now) → Same)
    (subst (λ (s : Statement). OnReply c.select.result (ReadsNoEdge db (statement_tree s) → Same)) (sym c.in-Select.is) c.select.ensures.quiet)

pub returns-in-Explain-clause-ok : goal.returns-in-Explain-clause-ok
returns-in-Explain-clause-ok g c =
    let db = c.args.store.now.db in
    let done = c.plan_shown.result in
    subst (λ (s : Statement). IfOk c.reply_of-in-Explain.result (λ reply. Executes db (statement_tree s) reply db)) (sym c.in-Explain.is)
    (replied db db (explain (select_tree c.in-Explain.query)) done c.reply_of-in-Explain.result c.reply_of-in-Explain.ensures
    c.plan_shown.ensures.ok (unchanged done db) c.plan_shown.ensures.refused)

pub returns-in-Guide-clause-ok : goal.returns-in-Guide-clause-ok
returns-in-Guide-clause-ok g c =
    let db = c.args.store.now.db in
    let done = c.guide_shown.result in
    subst (λ (s : Statement). IfOk c.reply_of-in-Guide.result (λ reply. Executes db (statement_tree s) reply db)) (sym c.in-Guide.is)
    (replied db db guide done c.reply_of-in-Guide.result c.reply_of-in-Guide.ensures (shown db done c.guide_shown.ensures.ok)
    (unchanged done db) (shown_told db done c.guide_shown.ensures.unrefused))

-- the number is one of 64 bits, and so it is passed as it is
pub returns-in-SetNodes-clause-ok : goal.returns-in-SetNodes-clause-ok
returns-in-SetNodes-clause-ok g c =
    let db = c.args.store.now.db in
    let after = c.set_nodes.new.store.db in
    let nodes = c.in-SetNodes.nodes in
    let passed = cast_signed w64 (cast_unsigned w64 nodes) in
    let done = c.set_nodes.result in
    let sound = subst (λ (s : Statement). IsSound (statement_tree s)) c.in-SetNodes.is c.requires.sound in
    let same = to_z-of_z w64 nodes (sound_statement (set_nodes nodes) sound) in
    subst (λ (s : Statement). IfOk c.reply_of-in-SetNodes.result (λ reply. Executes db (statement_tree s) reply after)) (sym c.in-SetNodes.is)
    (subst (λ (n : ℤ). IfOk c.reply_of-in-SetNodes.result (λ reply. Executes db (set_nodes n) reply after)) same
    (replied db after (set_nodes passed) done c.reply_of-in-SetNodes.result c.reply_of-in-SetNodes.ensures
    (limited db after passed done c.set_nodes.ensures.ok c.set_nodes.ensures.limit) c.set_nodes.ensures.same
    (limited_told db after passed done c.set_nodes.ensures.refused)))

pub returns-in-Browse-clause-ok : goal.returns-in-Browse-clause-ok
returns-in-Browse-clause-ok g c =
    let db = c.args.store.now.db in
    let path = c.in-Browse.path in
    subst (λ (s : Statement). IfOk c.reply_of-in-Browse.result (λ reply. Executes db (statement_tree s) reply db)) (sym c.in-Browse.is)
    (replied db db (browse path.start path.labels) c.browsed.result c.reply_of-in-Browse.result c.reply_of-in-Browse.ensures c.browsed.ensures.ok
    (unchanged c.browsed.result db) c.browsed.ensures.refused)

pub returns-in-Sample-clause-ok : goal.returns-in-Sample-clause-ok
returns-in-Sample-clause-ok g c =
    let db = c.args.store.now.db in
    let path = c.in-Sample.path in
    let count = c.in-Sample.count in
    let passed = cast_signed w64 (cast_unsigned w64 count) in
    let sound = subst (λ (s : Statement). IsSound (statement_tree s)) c.in-Sample.is c.requires.sound in
    let same = to_z-of_z w64 count (sound_statement (sample path.start path.labels count) sound).2 in
    subst (λ (s : Statement). IfOk c.reply_of-in-Sample.result (λ reply. Executes db (statement_tree s) reply db)) (sym c.in-Sample.is)
    (subst (λ (n : ℤ). IfOk c.reply_of-in-Sample.result (λ reply. Executes db (sample path.start path.labels n) reply db)) same
    (replied db db (sample path.start path.labels passed) c.sampled.result c.reply_of-in-Sample.result c.reply_of-in-Sample.ensures c.sampled.ensures.ok
    (unchanged c.sampled.result db) c.sampled.ensures.refused))

pub returns-in-Dump-clause-ok : goal.returns-in-Dump-clause-ok
returns-in-Dump-clause-ok g c =
    let db = c.args.store.now.db in
    let done = c.dump_shown.result in
    subst (λ (s : Statement). IfOk c.reply_of-in-Dump.result (λ reply. Executes db (statement_tree s) reply db)) (sym c.in-Dump.is)
    (replied db db dump done c.reply_of-in-Dump.result c.reply_of-in-Dump.ensures (dumped db done c.dump_shown.ensures.ok)
    (unchanged done db) (dumped_told db done c.dump_shown.ensures.unrefused))

pub returns-in-Restore-clause-ok : goal.returns-in-Restore-clause-ok
returns-in-Restore-clause-ok g c =
    let db = c.args.store.now.db in
    let after = c.restore.new.store.db in
    subst (λ (s : Statement). IfOk c.reply_of-in-Restore.result (λ reply. Executes db (statement_tree s) reply after)) (sym c.in-Restore.is)
    (replied db after (restore c.in-Restore.text) c.restore.result c.reply_of-in-Restore.result c.reply_of-in-Restore.ensures c.restore.ensures.ok
    (on_err_weaker c.restore.result (c.restore.new.store ≡ c.args.store.now) (after ≡ db) (λ same. ap (λ (s : RoomyDatabase). s.db) same)
    c.restore.ensures.same) c.restore.ensures.refused)
