-- What each kind of reply prints.
use Rattle.std.specs.Prelude.{ℕ, List, [], ◌∷◌, ◌++◌, length, codes, decimal, Option, Some, None, unwrap_or, slice_get}
use Rattle.std.specs.List.{flat_map, join_by}
use Rattle.lore_base.specs.Printed.{label_text, object_text}
use Rattle.lore_base.specs.Refusals.{number_of, text_of}
use Rattle.reply_texts.specs.Types.{Oid, Label, Cell, Value, PlanKind, Refusal}
use Rattle.reply_texts.specs.Types.plan_kinds
use Rattle.reply_texts.specs.Types.cells

-- a label behind a dot, by its text in the table, where each label of a reply is
abbrev pub step_text : List (List ℕ) → Label → List ℕ
step_text labels label = codes "." ++ label_text (unwrap_or (slice_get labels label.0) [])

-- a word: each label behind a dot; the word of no label is one dot
abbrev pub word_text : List (List ℕ) → List Label → List ℕ
word_text labels [] = codes "."
word_text labels (first ∷ others) = flat_map (step_text labels) (first ∷ others)

-- one cell: an object, which is live in each reply, or a word
abbrev pub cell_text : List (List ℕ) → List (Oid × Value) → Cell → List ℕ
cell_text labels objects (cells.Object oid) = object_text objects oid
cell_text labels objects (cells.Path word) = word_text labels word

-- one row: its cells, a bar between two
abbrev pub row_line : List (List ℕ) → List (Oid × Value) → List Cell → List ℕ
row_line labels objects row = join_by (cell_text labels objects) (codes " | ") row ++ codes "\n"

-- rows, a line each, and then their number
abbrev pub rows_text : List (List ℕ) → List (Oid × Value) → List (List Cell) → List ℕ
rows_text labels objects rows =
    flat_map (row_line labels objects) rows ++ codes "rows " ++ decimal (length rows) ++ codes "\n"

-- how many objects and edges there are after a change, and nodes of the guide
abbrev pub changed_line : ℕ → ℕ → ℕ → List ℕ
changed_line live edges nodes =
    codes "ok objects " ++ decimal live ++ codes " edges " ++ decimal edges ++ codes " nodes " ++ decimal nodes
    ++ codes "\n"

-- how a plan begins
abbrev pub kind_text : PlanKind → List ℕ
kind_text plan_kinds.Top = codes "top"
kind_text plan_kinds.Bottom = codes "bottom"
kind_text plan_kinds.Guided = codes "guide"

-- a space, and a number or `-` where there is none
abbrev pub given_text : Option ℕ → List ℕ
given_text None = codes " -"
given_text (Some number) = codes " " ++ decimal number

-- a plan: its kind, and what was counted for it
abbrev pub plan_line : PlanKind → Option ℕ → Option ℕ → List ℕ
plan_line kind candidates found =
    codes "plan " ++ kind_text kind ++ given_text candidates ++ given_text found ++ codes "\n"

-- lines, each with its end
abbrev pub lines_text : List (List ℕ) → List ℕ
lines_text lines = flat_map (λ line. line ++ codes "\n") lines

-- a refusal: its number and its name
abbrev pub refused_line : Refusal → List ℕ
refused_line refusal = codes "refused " ++ decimal (number_of refusal) ++ codes " " ++ text_of refusal ++ codes "\n"
