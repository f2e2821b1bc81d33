-- What each reply prints.
use Rattle.std.specs.Prelude.{ℕ, List}
use Rattle.lore_run.specs.Types.{Oid, Value, Reply, Changed, Rows, Past, PlanShown, Lines, Dump, Refused}
use Rattle.reply_texts.specs.Texts.{rows_text, changed_line, plan_line, lines_text, refused_line}
use Rattle.lore_db.specs.States.{State, objects_at}

-- the bytes of a reply, where these are the labels and the objects
abbrev pub rendered : List (List ℕ) → List (Oid × Value) → Reply → List ℕ
rendered labels objects (Changed live edges nodes) = changed_line live edges nodes
rendered labels objects (PlanShown kind candidates found) = plan_line kind candidates found
rendered labels objects (Lines lines) = lines_text lines
rendered labels objects (Dump text) = text
rendered labels objects (Rows rows) = rows_text labels objects rows
rendered labels objects (Past moment rows) = rows_text labels objects rows
rendered labels objects (Refused refusal) = refused_line refusal

-- the objects whose values a reply shows: those of its moment, or the present ones
abbrev pub shown_objects : State → Reply → List (Oid × Value)
shown_objects state (Past moment rows) = objects_at state.history moment
shown_objects state reply = state.db.graph.objects

-- the bytes of a reply in a state: the labels are the present ones
abbrev pub reply_text : State → Reply → List ℕ
reply_text state reply = rendered state.db.labels (shown_objects state reply) reply
