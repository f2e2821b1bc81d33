-- The lines of a dump are its canonical tokens, written.
use Rattle.std.proofs.Common.{◌≡◌, ℕ, ℤ, Bool, true, false, if◌then◌else◌, List, [], ◌∷◌, ◌++◌, map, codes, refl, sym, ap, subst, inl, inr, append_assoc}
use Rattle.std.specs.Fmt.{signed_decimal}
use Rattle.std.specs.List.{list_all}
use Rattle.std.proofs.lemmas.Bool.{and_from}
use Rattle.dump_laws.specs.Types.{Oid, Value, Whole, Chars, Flag, Complex, Mode, Auto, Top, Bottom, Guided, Kind, DumpTree}
use Rattle.dump_laws.specs.Types.kinds as k
use Rattle.dump_laws.specs.Types.signs as s
use Rattle.lore_base.specs.Names.{is_identifier}
use Rattle.lore_base.specs.Printed.{printed, label_text}
use Rattle.lore_base.specs.Quotes.{in_quotes}
use Rattle.lore_base.specs.Comparisons.{flag_text}
use Rattle.lorel_lex.specs.Gaps.{is_blank}
use Rattle.lorel_lex.specs.Writing.{token_text, is_apart, AreWritten}
use Rattle.lorel_trees.specs.Repetitions.{spell_each}
use Rattle.lorel_trees.specs.Literals.{spell_value}
use Rattle.lorel_trees.specs.Statements.{spell_mode, spell_oid, spell_dump_object, spell_dump_objects}
use Rattle.lorel_ast.specs.Printing.{label_token, print_label, print_dump_labels, print_dump_name, print_dump_names, print_dump_edge, print_dump_edges, print_dump}
use Rattle.dump_text.specs.Dumps.{line_of, oid_text, mode_text, label_line, name_line, object_line, edge_line, dump_lines, ended_lines}

-- a blank byte before written tokens
pub blank_before : (blank : ℕ) (kinds : List Kind) (bytes : List ℕ) → is_blank blank ≡ true → AreWritten kinds bytes → AreWritten kinds (blank ∷ bytes)
blank_before blank [] bytes is written = and_from (is_blank blank) (list_all is_blank bytes) is written
blank_before blank (kind ∷ kinds) bytes is (gap, rest, parts, blanks, follow, written) =
    (blank ∷ gap, rest, ap (λ (l : List ℕ). blank ∷ l) parts, and_from (is_blank blank) (list_all is_blank gap) is blanks, follow, written)

-- the bytes are what is put before other tokens, written, where nothing or a blank byte stands behind them
abbrev pub Writes : (List Kind → List Kind) → List ℕ → Type 0
Writes put bytes = (rest : List ℕ) (more : List Kind) → is_apart rest ≡ true → AreWritten more rest → AreWritten (put more) (bytes ++ rest)

pub token : (kind : Kind) → Writes (λ more. kind ∷ more) (token_text kind)
token kind rest more apart written = ([], rest, refl, refl, inl apart, written)

-- one behind the other, with a space between
behind : (put also : List Kind → List Kind) (word bytes : List ℕ) → Writes put word → Writes also bytes → Writes (λ more. put (also more)) (line_of word bytes)
behind put also word bytes first second rest more apart written =
    subst (AreWritten (put (also more))) (sym (append_assoc word (32 ∷ bytes) rest))
    (first (32 ∷ (bytes ++ rest)) (also more) refl (blank_before 32 (also more) (bytes ++ rest) refl (second rest more apart written)))

-- what stands in lines

label_by : (is : Bool) (text : List ℕ) → Writes (λ more. label_token is text ∷ more) (if is then text else in_quotes 39 text)
label_by true text = token (k.Word text)
label_by false text = token (k.Quoted text)

label_written : (text : List ℕ) → Writes (print_label text) (label_text text)
label_written text = label_by (is_identifier text) text

value_written : (value : Value) → Writes (spell_value value) (printed value)
value_written (Whole number) = token (k.Number number)
value_written (Chars text) = token (k.Chars text)
value_written (Flag flag) = token (k.Word (flag_text flag))
value_written Complex = λ rest more apart written. ([], codes "}" ++ rest, refl, refl, inr refl, token (k.Symbol s.RightBrace) rest more apart written)

mode_written : (mode : Mode) → Writes (spell_mode mode) (mode_text mode)
mode_written Auto = token (k.Word (codes "auto"))
mode_written Top = token (k.Word (codes "top"))
mode_written Bottom = token (k.Word (codes "bottom"))
mode_written Guided = token (k.Word (codes "guide"))

number_written : (word : List ℕ) (number : ℤ) → Writes (λ more. k.Word word ∷ k.Number number ∷ more) (line_of word (signed_decimal number))
number_written word number = behind (λ more. k.Word word ∷ more) (λ more. k.Number number ∷ more) word (signed_decimal number) (token (k.Word word)) (token (k.Number number))

oid_written : (oid : Oid) → Writes (spell_oid oid) (oid_text oid)
oid_written oid = token (k.Local oid.0)

-- lines, each behind its word

keyed : (word : List ℕ) (put : List Kind → List Kind) (bytes : List ℕ) → Writes put bytes → Writes (λ more. k.Word word ∷ put more) (line_of word bytes)
keyed word put bytes written = behind (λ more. k.Word word ∷ more) put word bytes (token (k.Word word)) written

label_line_written : (text : List ℕ) → Writes (λ more. k.Word (codes "label") ∷ print_label text more) (label_line text)
label_line_written text = keyed (codes "label") (print_label text) (label_text text) (label_written text)

name_line_written : (entry : List ℕ × Oid) → Writes (λ more. k.Word (codes "name") ∷ print_dump_name entry more) (name_line entry)
name_line_written entry =
    keyed (codes "name") (print_dump_name entry) (line_of entry.0 (oid_text entry.1)) (keyed entry.0 (spell_oid entry.1) (oid_text entry.1) (oid_written entry.1))

object_line_written : (entry : Oid × Value) → Writes (λ more. k.Word (codes "object") ∷ spell_dump_object entry more) (object_line entry)
object_line_written entry =
    keyed (codes "object") (spell_dump_object entry) (line_of (oid_text entry.0) (printed entry.1))
    (behind (spell_oid entry.0) (spell_value entry.1) (oid_text entry.0) (printed entry.1) (oid_written entry.0) (value_written entry.1))

edge_line_written : (entry : Oid × List ℕ × Oid) → Writes (λ more. k.Word (codes "edge") ∷ print_dump_edge entry more) (edge_line entry)
edge_line_written entry =
    let to = oid_text entry.2 in
    let labelled = behind (print_label entry.1) (spell_oid entry.2) (label_text entry.1) to (label_written entry.1) (oid_written entry.2) in
    keyed (codes "edge") (print_dump_edge entry) (line_of (oid_text entry.0) (line_of (label_text entry.1) to))
    (behind (spell_oid entry.0) (λ more. print_label entry.1 (spell_oid entry.2 more)) (oid_text entry.0) (line_of (label_text entry.1) to) (oid_written entry.0) labelled)

-- a line before others
line_before : (put : List Kind → List Kind) (line : List ℕ) (lines : List (List ℕ)) (more : List Kind) → Writes put line → AreWritten more (ended_lines lines)
    → AreWritten (put more) (ended_lines (line ∷ lines))
line_before put line lines more first written =
    subst (AreWritten (put more)) (sym (append_assoc line (codes "\n") (ended_lines lines)))
    (first (10 ∷ ended_lines lines) more refl (blank_before 10 more (ended_lines lines) refl written))

lines_before : {T : Type 0} (kind : Kind) (print : T → List Kind → List Kind) (line : T → List ℕ) → ((one : T) → Writes (λ more. kind ∷ print one more) (line one))
    → (all : List T) (lines : List (List ℕ)) (more : List Kind) → AreWritten more (ended_lines lines) → AreWritten (spell_each kind print all more) (ended_lines (map line all ++ lines))
lines_before kind print line each [] lines more written = written
lines_before kind print line each (first ∷ others) lines more written =
    line_before (λ kinds. kind ∷ print first kinds) (line first) (map line others ++ lines) (spell_each kind print others more) (each first)
    (lines_before kind print line each others lines more written)

pub dump_written : (text : DumpTree) → AreWritten (print_dump text []) (ended_lines (dump_lines text))
dump_written text =
    let last = codes "end" ∷ [] in
    let end = k.Word (codes "end") ∷ [] in
    let ended = line_before (λ more. k.Word (codes "end") ∷ more) (codes "end") [] [] (token (k.Word (codes "end"))) refl in
    let edges = lines_before (k.Word (codes "edge")) print_dump_edge edge_line edge_line_written text.edges last end ended in
    let edge_lines = map edge_line text.edges ++ last in
    let edge_kinds = print_dump_edges text.edges end in
    let objects = lines_before (k.Word (codes "object")) spell_dump_object object_line object_line_written text.objects edge_lines edge_kinds edges in
    let object_lines = map object_line text.objects ++ edge_lines in
    let object_kinds = spell_dump_objects text.objects edge_kinds in
    let names = lines_before (k.Word (codes "name")) print_dump_name name_line name_line_written text.names object_lines object_kinds objects in
    let name_lines = map name_line text.names ++ object_lines in
    let name_kinds = print_dump_names text.names object_kinds in
    let labels = lines_before (k.Word (codes "label")) print_label label_line label_line_written text.labels name_lines name_kinds names in
    let lines = map label_line text.labels ++ name_lines in
    let kinds = print_dump_labels text.labels name_kinds in
    let plan_line = line_of (codes "plan") (mode_text text.mode) in
    let plan = line_before (λ more. k.Word (codes "plan") ∷ spell_mode text.mode more) plan_line lines kinds
    (keyed (codes "plan") (spell_mode text.mode) (mode_text text.mode) (mode_written text.mode)) labels in
    let nodes_line = line_of (codes "nodes") (signed_decimal text.nodes) in
    let plan_kinds = k.Word (codes "plan") ∷ spell_mode text.mode kinds in
    let nodes = line_before (λ more. k.Word (codes "nodes") ∷ k.Number text.nodes ∷ more) nodes_line (plan_line ∷ lines) plan_kinds (number_written (codes "nodes") text.nodes) plan in
    let next_line = line_of (codes "next") (signed_decimal text.next) in
    let nodes_kinds = k.Word (codes "nodes") ∷ k.Number text.nodes ∷ plan_kinds in
    let next = line_before (λ more. k.Word (codes "next") ∷ k.Number text.next ∷ more) next_line (nodes_line ∷ plan_line ∷ lines) nodes_kinds (number_written (codes "next") text.next) nodes in
    line_before (λ more. k.Word (codes "oem") ∷ k.Number text.version ∷ more) (line_of (codes "oem") (signed_decimal text.version)) (next_line ∷ nodes_line ∷ plan_line ∷ lines)
    (k.Word (codes "next") ∷ k.Number text.next ∷ nodes_kinds) (number_written (codes "oem") text.version) next
