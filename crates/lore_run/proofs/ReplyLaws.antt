-- What a part of a script yields is printed as some bytes.
use Rattle.std.proofs.Common.{◌≡◌, ℕ, ◌+◌, ◌<◌, inl, inr, List, [], ◌∷◌, ◌++◌, length, map, Option, Some, None, arith, subst, ap, sym, length-append}
use Rattle.std.specs.Prelude.{codes, decimal, true, false, MatchOption}
use Rattle.std.specs.List.{flat_map}
use Rattle.lore_base.specs.Databases.{Database}
use Rattle.lore_base.specs.Refusals.{number_of, text_of}
use Rattle.lorel_trees.specs.Trees as t
use Rattle.lorel_trees.specs.Trees.{StatementTree, load, bind, unname, assign, add_new, add_link, remove, select}
use Rattle.lorel_trees.specs.Trees.{explain, guide, browse, sample, set_nodes, set_plan, dump, restore, generate}
use Rattle.doem_history.specs.Moments.{Moment}
use Rattle.statements.specs.Statements.{Counts}
use Rattle.statements.specs.Statements as databases
use Rattle.dump_text.specs.Dumps.{line_of, name_line, object_line, edge_line, spelled_edge}
use Rattle.change_lines.specs.Changes.{AreChangeLines, change_line}
use Rattle.view_laws.specs.Freshness.{query_in}
use Rattle.lore_db.specs.States.{State, AnswersAt, AnswersNow, TellsChanges, Does, Performs}
use Rattle.lore_run.specs.Types.{Oid, Value, Cell, Refusal, Syntax, Unfinished, Reply, Changed, Rows, Past, PlanShown, Lines, Refused}
use Rattle.reply_texts.specs.Texts.{row_line, kind_text, given_text}
use Rattle.lore_run.specs.Replies.{rendered, reply_text, shown_objects}
use Rattle.lore_run.specs.Runs.{ScriptPart, chunk, rest, Yields}

-- whatever the labels and the objects are
abbrev pub IsSome : Reply → Type 0
IsSome reply = (labels : List (List ℕ)) (objects : List (Oid × Value)) → 0 < length (rendered labels objects reply)

-- a line has its line feed
line-some : (words : List ℕ) → 0 < length (words ++ codes "\n")
line-some words = omega (arith, length-append words (codes "\n"))

lines-some : (lines : List (List ℕ)) → 0 < length lines → 0 < length (flat_map (λ (line : List ℕ). line ++ codes "\n") lines)
lines-some [] some = absurd (omega (arith, some))
lines-some (line ∷ lines) some =
    let first = line-some line in
    omega (arith, first, length-append (line ++ codes "\n") (flat_map (λ (other : List ℕ). other ++ codes "\n") lines))

-- lines of which one is the first, or the last
first-some : (lines : List (List ℕ)) (first : List ℕ) (others : List (List ℕ)) → lines ≡ first ∷ others → 0 < length lines
first-some lines first others are = omega (arith, ap length are)

last-some : (front lines : List (List ℕ)) (last : List ℕ) → lines ≡ front ++ last ∷ [] → 0 < length lines
last-some front lines last are = omega (arith, ap length are, length-append front (last ∷ []))

same-some : (reply other : Reply) → reply ≡ other → IsSome other → IsSome reply
same-some reply other same some = subst (λ (it : Reply). IsSome it) (sym same) some

refused-some : (reply : Reply) (refusal : Refusal) → reply ≡ Refused refusal → IsSome reply
refused-some reply refusal same =
    same-some reply (Refused refusal) same
    (λ labels live. line-some (codes "refused " ++ decimal (number_of refusal) ++ codes " " ++ text_of refusal))

counts-some : (after : Database) (reply : Reply) → Counts after reply → IsSome reply
counts-some after reply (sets, targets, same) =
    let objects = length after.graph.objects in
    let edges = length after.graph.edges in
    same-some reply (Changed objects edges (length sets)) same
    (λ labels live. line-some (codes "ok objects " ++ decimal objects ++ codes " edges " ++ decimal edges ++ codes " nodes " ++ decimal (length sets)))

listed-some : (reply : Reply) (lines : List (List ℕ)) → reply ≡ Lines lines → 0 < length lines → IsSome reply
listed-some reply lines same some = same-some reply (Lines lines) same (λ labels live. lines-some lines some)

rows-some : (reply : Reply) (rows : List (List Cell)) → reply ≡ Rows rows → IsSome reply
rows-some reply rows same =
    same-some reply (Rows rows) same
    (λ labels live. line-some (flat_map (row_line labels live) rows ++ codes "rows " ++ decimal (length rows)))

performs-some : (before : Database) (statement : StatementTree) (reply : Reply) (after : Database) → databases.Fulfils before statement reply after → IsSome reply
performs-some before (select query) reply after (kept, (rows, same, answered)) = rows-some reply rows same
performs-some before (explain query) reply after (kept, shown) =
    same-some reply (PlanShown shown.kind shown.candidates shown.found) shown.is
    (λ labels live. line-some (codes "plan " ++ kind_text shown.kind ++ given_text shown.candidates ++ given_text shown.found))
performs-some before guide reply after (kept, (lines, same, shown)) =
    let some = last-some shown.set_lines lines (codes "nodes " ++ decimal (length shown.sets)) shown.are in
    listed-some reply lines same some
performs-some before (set_nodes nodes) reply after (limited, counted) = counts-some after reply counted
performs-some before (load name literal) reply after (led, counted) = counts-some after reply counted
performs-some before (bind name path) reply after (led, counted) = counts-some after reply counted
performs-some before (unname name) reply after (led, counted) = counts-some after reply counted
performs-some before (assign target value tail) reply after (led, counted) = counts-some after reply counted
performs-some before (add_new target label literal tail) reply after (led, counted) = counts-some after reply counted
performs-some before (add_link target label right tail) reply after (led, counted) = counts-some after reply counted
performs-some before (remove target label right tail) reply after (led, counted) = counts-some after reply counted
performs-some before (browse start labels) reply after (kept, (lines, same, shown)) =
    listed-some reply lines same (first-some lines _ _ shown.are)
performs-some before (sample start labels count) reply after (kept, (most, is, lines, same, shown)) =
    listed-some reply lines same (last-some _ lines _ shown.are)
performs-some before (set_plan mode) reply after (led, counted) = counts-some after reply counted
performs-some before dump reply after (kept, same) =
    same-some reply _ same (λ labels live. omega arith)
performs-some before (restore text) reply after (dumped, valid, counted) = counts-some after reply counted
performs-some before (generate seed count) reply after (led, counted) = counts-some after reply counted
performs-some before (t.history on) reply after performed = absurd performed
performs-some before (t.select_at moment query) reply after performed = absurd performed
performs-some before (t.changes first last) reply after performed = absurd performed
performs-some before t.blocks reply after (kept, (lines, same, shown)) =
    listed-some reply lines same (last-some _ lines _ shown.are)
performs-some before (t.blocks_of query) reply after (kept, (rows, same, answered)) = rows-some reply rows same
performs-some before (t.watch name query) reply after performed = absurd performed
performs-some before (t.unwatch name) reply after performed = absurd performed
performs-some before (t.show name) reply after performed = absurd performed

-- what stands behind other lines is still there
behind-some : (front behind : List (List ℕ)) → 0 < length behind → 0 < length (front ++ behind)
behind-some front behind some = omega (arith, some, length-append front behind)

-- what differs has a last line
told-some : (labels : List (List ℕ)) (before after : Moment) (lines : List (List ℕ)) → AreChangeLines labels before after lines → 0 < length lines
told-some labels before after lines h =
    let last = line_of (codes "changes") (decimal (length h.names + length h.objects + length h.edges)) ∷ [] in
    subst (λ (all : List (List ℕ)). 0 < length all) (sym h.are)
    (behind-some (map (change_line name_line) h.names) _ (behind-some (map (change_line object_line) h.objects) _
    (behind-some (map (change_line (λ edge. edge_line (spelled_edge labels edge))) h.edges) last (omega arith))))

-- ---- states
-- what is answered of what is kept, where it is, is something where it is of all that may be kept
of-some : {X : Type 0} (kept : Option X) (Answers : X → Type 0) (reply : Reply) → ((own : X) → Answers own → IsSome reply)
    → MatchOption kept ⊥ Answers → IsSome reply
of-some None Answers reply some h = absurd h
of-some (Some own) Answers reply some h = some own h

does-some : (before : State) (statement : StatementTree) (reply : Reply) (after : State) → Does before statement reply after → IsSome reply
does-some before (t.history true) reply after done = counts-some before.db reply done.0
does-some before (t.history false) reply after done = counts-some before.db reply done.0
does-some before (t.select_at given query) reply after done =
    of-some before.history (AnswersAt before.db given query reply) reply (λ moments h. same-some reply (Past h.number h.rows) h.replied
    (λ labels live. line-some (flat_map (row_line labels live) h.rows ++ codes "rows " ++ decimal (length h.rows)))) done.1
does-some before (t.changes first last) reply after done =
    of-some before.history (TellsChanges before.db first last reply) reply
    (λ moments h. listed-some reply h.lines h.replied (told-some before.db.labels h.two.before h.two.after h.lines h.are)) done.1
does-some before (t.watch name query) reply after done = counts-some before.db reply done.0
does-some before (t.unwatch name) reply after done = counts-some before.db reply done.0
does-some before (t.show name) reply after done =
    of-some (query_in before.views name) (AnswersNow before.db reply) reply (λ query h. rows-some reply h.0 h.1) done.1
does-some before statement reply after (db, does, goes) = performs-some before.db statement reply db does

state-some : (before : State) (statement : StatementTree) (reply : Reply) (after : State) → Performs before statement reply after → IsSome reply
state-some before statement reply after (inl (clear, does)) = does-some before statement reply after does
state-some before statement reply after (inr (refusal, first, replied, same)) = refused-some reply refusal replied

pub yields-some : (before : State) (part : ScriptPart) (reply : Reply) (after : State) → Yields before part reply after → 0 < length (reply_text after reply)
yields-some before part reply after yielded = some before part reply after yielded after.db.labels (shown_objects after reply)
  where
    some : (before : State) (part : ScriptPart) (reply : Reply) (after : State) → Yields before part reply after → IsSome reply
    some before (chunk text) reply after (inl lacks) = refused-some reply lacks.refusal lacks.refused
    some before (chunk text) reply after (inr (inl lacks)) = refused-some reply Syntax lacks.refused
    some before (chunk text) reply after (inr (inr has)) = state-some before has.statement reply after has.executed
    some before rest reply after yielded = refused-some reply Unfinished yielded.0
