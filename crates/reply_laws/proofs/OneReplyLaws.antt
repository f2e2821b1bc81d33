-- A statement has one reply, and leaves one database.
use Rattle.std.proofs.Common.{◌≡◌, ℕ, List, length, inl, inr, sym, ap, subst, ◌∙◌}
use Rattle.std.specs.Prelude.{ℤ, pos}
use Rattle.lore_base.specs.Databases.{Database}
use Rattle.lore_base.specs.ChangeSets.{IsAfter}
use Rattle.lore_base.proofs.VerdictLaws.{one_first, first_unclear}
use Rattle.list_laws.proofs.SumLaws.{distinct_as_long}
use Rattle.oem_changes.proofs.DeterminedLaws.{one_database_after}
use Rattle.guide_query.proofs.OneListOfLines.{one_list_of_lines}
use Rattle.guide_query.proofs.OnePathLines.{one_browsing, one_sample}
use Rattle.guide_query.specs.PathLines.{AreSampleLines}
use Rattle.block_lines.proofs.BlockLineLaws.{one_list_of_lines as one_list_of_block_lines}
use Rattle.dump_text.proofs.RuleLaws.{one_database}
use Rattle.lorel_trees.specs.declared.dump_trees.DumpTree.{DumpTree}
use Rattle.lorel_trees.specs.Trees as t
use Rattle.lorel_trees.specs.Trees.{StatementTree, select, explain, guide, browse, sample, set_nodes, set_plan, dump, restore}
use Rattle.lorel_trees.specs.Trees.{history, select_at, blocks, blocks_of, watch, unwatch, show}
use Rattle.bind_laws.proofs.AnswerLaws.{has_one_answer}
use Rattle.statements.specs.Types.{Oid, Cell, Mode, Refusal}
use Rattle.lore_db.specs.Types.{Reply, Changed, Rows, Lines, Refused}
use Rattle.statements.specs.Blocks.{named_graph}
use Rattle.statements.specs.Effects.{effects}
use Rattle.statements.specs.Statements.{Cause, cause_order, Counts, MakesItsChanges, Shows, ShowsBlocks, Browses, Samples, Limits, ChoosesBy, Dumps, Restores, Fulfils, Refuses}
use Rattle.reply_laws.specs.Laws.{ExecutesOnce}
use Rattle.statements.proofs.CauseLaws.{one_rows}
use Rattle.statements.proofs.ExplainLaws.{one_explained}

-- a database is counted by one reply
pub one_counted : (db : Database) (reply other : Reply) → Counts db reply → Counts db other → reply ≡ other
one_counted db reply other h k =
    let many = distinct_as_long h.0 k.0 h.1.apart k.1.apart
    (λ set. (λ at. (k.1.exact set).1 ((h.1.exact set).0 at), λ at. (h.1.exact set).1 ((k.1.exact set).0 at))) in
    h.2 ∙ ap (λ (count : ℕ). Changed (length db.graph.objects) (length db.graph.edges) count) many ∙ sym k.2

-- also where it is another one that is the same
same_counted : (after later : Database) (reply other : Reply) → after ≡ later → Counts after reply → Counts later other → reply ≡ other
same_counted after later reply other same h k =
    one_counted later reply other (subst (λ (db : Database). Counts db reply) same h) k

one_led : (before : Database) (statement : StatementTree) (reply other : Reply) (after later : Database)
    → MakesItsChanges before statement reply after
    → MakesItsChanges before statement other later → (reply ≡ other) × (after ≡ later)
one_led before statement reply other after later h k =
    let rows = one_rows before statement h.0.0 k.0.0 h.0.1 k.0.1 in
    let there = subst (λ (l : List (List Oid)). IsAfter before (effects before statement l) after) rows h.0.2 in
    let same = one_database_after before (effects before statement k.0.0) after later there k.0.2 in
    (same_counted after later reply other same h.1 k.1, same)

one_shown : (before : Database) (reply other : Reply) (after later : Database) → Shows before reply after
    → Shows before other later → (reply ≡ other) × (after ≡ later)
one_shown before reply other after later h k =
    let same = one_list_of_lines before.graph.names before.graph.edges before.labels h.1.0 k.1.0 h.1.2 k.1.2 in
    (h.1.1 ∙ ap (λ (lines : List (List ℕ)). Lines lines) same ∙ sym k.1.1, h.0 ∙ sym k.0)

one_browsed : (before : Database) (start : List ℕ) (labels : List (List ℕ)) (reply other : Reply) (after later : Database)
    → Browses before start labels reply after → Browses before start labels other later → (reply ≡ other) × (after ≡ later)
one_browsed before start labels reply other after later h k =
    let same = one_browsing before.graph.names before.graph.edges before.labels start labels h.1.0 k.1.0 h.1.2 k.1.2 in
    (h.1.1 ∙ ap (λ (lines : List (List ℕ)). Lines lines) same ∙ sym k.1.1, h.0 ∙ sym k.0)

one_sampled : (before : Database) (start : List ℕ) (labels : List (List ℕ)) (count : ℤ)
    (reply other : Reply) (after later : Database) → Samples before start labels count reply after
    → Samples before start labels count other later → (reply ≡ other) × (after ≡ later)
one_sampled before start labels count reply other after later (kept, (most, is, lines, shown, are)) (left, (size, also, others, too, were)) =
    let numbers : pos size ≡ pos most = sym also ∙ is in
    let sizes : size ≡ most = cc in
    let same = one_sample before.graph.names before.graph.objects before.graph.edges before.labels start labels most lines others are
    (subst (λ (n : ℕ). AreSampleLines before.graph.names before.graph.objects before.graph.edges before.labels start labels n others) sizes were) in
    (shown ∙ ap (λ (all : List (List ℕ)). Lines all) same ∙ sym too, kept ∙ sym left)

one_blocked : (before : Database) (reply other : Reply) (after later : Database) → ShowsBlocks before reply after
    → ShowsBlocks before other later → (reply ≡ other) × (after ≡ later)
one_blocked before reply other after later (kept, (lines, shown, are)) (left, (others, too, were)) =
    let same = one_list_of_block_lines (named_graph before) lines others are were in
    (shown ∙ ap (λ (all : List (List ℕ)). Lines all) same ∙ sym too, kept ∙ sym left)

one_dumped : (before : Database) (reply other : Reply) (after later : Database) → Dumps before reply after
    → Dumps before other later → (reply ≡ other) × (after ≡ later)
one_dumped before reply other after later h k = (h.1 ∙ sym k.1, h.0 ∙ sym k.0)

one_restoring : (text : DumpTree) (reply other : Reply) (after later : Database) → Restores text reply after
    → Restores text other later → (reply ≡ other) × (after ≡ later)
one_restoring text reply other after later (dumped, valid, counted) (too, also, told) =
    let same = one_database text after later dumped too valid.restorable also.restorable in
    (same_counted after later reply other same counted told, same)

one_limited : (before : Database) (nodes : ℤ) (reply other : Reply) (after later : Database) → Limits before nodes reply after
    → Limits before nodes other later → (reply ≡ other) × (after ≡ later)
one_limited before nodes reply other after later h k =
    let numbers : pos h.0.0 ≡ pos k.0.0 = sym h.0.1 ∙ k.0.1 in
    let limit : h.0.0 ≡ k.0.0 = cc in
    let same : after ≡ later = h.0.2 ∙ ap (λ (n : ℕ). record before { nodes = n }) limit ∙ sym k.0.2 in
    (same_counted after later reply other same h.1 k.1, same)

one_chosen : (before : Database) (mode : Mode) (reply other : Reply) (after later : Database) → ChoosesBy before mode reply after
    → ChoosesBy before mode other later → (reply ≡ other) × (after ≡ later)
one_chosen before mode reply other after later h k =
    let same : after ≡ later = h.0 ∙ sym k.0 in
    (same_counted after later reply other same h.1 k.1, same)

pub one_performed : (before : Database) (statement : StatementTree) (reply other : Reply) (after later : Database)
    → Fulfils before statement reply after
    → Fulfils before statement other later → (reply ≡ other) × (after ≡ later)
one_performed before (select query) reply other after later h k =
    let same = has_one_answer before query h.1.0 k.1.0 h.1.2 k.1.2 in
    (h.1.1 ∙ ap (λ (rows : List (List Cell)). Rows rows) same ∙ sym k.1.1, h.0 ∙ sym k.0)
one_performed before (explain query) reply other after later h k = one_explained before query reply other after later h k
one_performed before guide reply other after later h k = one_shown before reply other after later h k
one_performed before (browse start labels) reply other after later h k = one_browsed before start labels reply other after later h k
one_performed before (sample start labels count) reply other after later h k =
    one_sampled before start labels count reply other after later h k
one_performed before dump reply other after later h k = one_dumped before reply other after later h k
one_performed before (restore text) reply other after later h k = one_restoring text reply other after later h k
one_performed before (set_nodes nodes) reply other after later h k = one_limited before nodes reply other after later h k
one_performed before (set_plan mode) reply other after later h k = one_chosen before mode reply other after later h k
one_performed before (history on) reply other after later h k = absurd h
one_performed before (select_at moment query) reply other after later h k = absurd h
one_performed before (t.changes first last) reply other after later h k = absurd h
one_performed before blocks reply other after later h k = one_blocked before reply other after later h k
one_performed before (blocks_of query) reply other after later h k =
    let same = has_one_answer before query h.1.0 k.1.0 h.1.2 k.1.2 in
    (h.1.1 ∙ ap (λ (rows : List (List Cell)). Rows rows) same ∙ sym k.1.1, h.0 ∙ sym k.0)
one_performed before (watch name query) reply other after later h k = absurd h
one_performed before (unwatch name) reply other after later h k = absurd h
one_performed before (show name) reply other after later h k = absurd h
one_performed before statement reply other after later h k = one_led before statement reply other after later h k

one_refused : (refusal same : Refusal) (before : Database) (reply other : Reply) (after later : Database)
    → refusal ≡ same → Refuses refusal before reply after
    → Refuses same before other later → (reply ≡ other) × (after ≡ later)
one_refused refusal same before reply other after later is h k =
    (h.0 ∙ ap (λ (r : Refusal). Refused r) is ∙ sym k.0, h.1 ∙ sym k.1)

pub one_execution : ExecutesOnce
one_execution before statement reply other after later (inl h) (inl k) =
    one_performed before statement reply other after later h.1 k.1
one_execution before statement reply other after later (inl h) (inr k) =
    absurd (first_unclear (Cause before statement) cause_order k.0 k.1 h.0)
one_execution before statement reply other after later (inr h) (inl k) =
    absurd (first_unclear (Cause before statement) cause_order h.0 h.1 k.0)
one_execution before statement reply other after later (inr h) (inr k) =
    let same = one_first (Cause before statement) cause_order h.0 k.0 h.1 k.1 in
    one_refused h.0 k.0 before reply other after later same h.2 k.2
