-- The tokens of a dump tree are UTF-8 where its labels and values are.
use Rattle.std.proofs.Common.{◌≡◌, ℕ, ℤ, ◌<◌, Bool, true, false, List, [], ◌∷◌, codes, All, get_or, refl, arith}
use Rattle.std.specs.Prelude.{IsUtf8}
use Rattle.std.specs.List.{list_all}
use Rattle.std.specs.Str.{IsAscii}
use Rattle.std.proofs.lemmas.Bool.{and_parts}
use Rattle.std.proofs.lemmas.Bool.Decides.{nat_tests}
use Rattle.std.proofs.lemmas.List.Elements.{All-nil, All-cons, All-head, All-tail, All-map}
use Rattle.std.proofs.lemmas.Str.{IsUtf8-from_ascii}
use Rattle.std.proofs.lemmas.Str.Ascii.{IsAscii-nil, IsAscii-cons}
use Rattle.dump_laws.specs.Types.{Oid, Value, Whole, Chars, Flag, Complex, Mode, Auto, Top, Bottom, Guided, Kind}
use Rattle.dump_laws.specs.Types.kinds as k
use Rattle.dump_laws.specs.Types.signs as s
use Rattle.dump_laws.specs.Laws.{IsText, AreTexts}
use Rattle.lore_base.specs.Names.{is_word_byte, is_identifier, IsIdentifier, IsName}
use Rattle.lore_base.specs.Databases.{Database}
use Rattle.lore_base.specs.Comparisons.{flag_text}
use Rattle.lore_base.proofs.WordLaws.{identifier_tested}
use Rattle.lorel_lex.specs.Writing.{IsUtf8Token}
use Rattle.lorel_lex.proofs.WordLaws.{identifier_run}
use Rattle.lorel_trees.specs.Repetitions.{spell_each}
use Rattle.lorel_trees.specs.Literals.{spell_value}
use Rattle.lorel_trees.specs.Statements.{spell_mode, spell_dump_object, spell_dump_objects}
use Rattle.lorel_ast.specs.Printing.{label_token, print_label, print_dump_labels, print_dump_name, print_dump_names, print_dump_edge, print_dump_edges, print_dump}
use Rattle.dump_text.specs.Dumps.{spelled_edge, dump_tree}
use Rattle.lore_base.specs.Databases.{IsRestorable}
use Rattle.dump_laws.proofs.FormedLaws.{text_among}

-- identifiers

word_low : (byte : ℕ) → is_word_byte byte ≡ true → byte < 128
word_low byte is = grind (arith, nat_tests)

word_ascii : (text : List ℕ) → list_all is_word_byte text ≡ true → IsAscii text
word_ascii [] are = IsAscii-nil
word_ascii (byte ∷ text) are =
    let both = and_parts (is_word_byte byte) (list_all is_word_byte text) are in
    IsAscii-cons byte text (word_low byte both.0) (word_ascii text both.1)

identifier_utf8 : (text : List ℕ) → IsIdentifier text → IsUtf8 text
identifier_utf8 text is = IsUtf8-from_ascii text (word_ascii text (identifier_run text is))

keyword : (text : List ℕ) → is_identifier text ≡ true → IsUtf8 text
keyword text is = identifier_utf8 text ((identifier_tested text).1 is)

pub restore_utf8 : IsUtf8 (codes "restore")
restore_utf8 = keyword (codes "restore") refl

flag_utf8 : (flag : Bool) → IsUtf8 (flag_text flag)
flag_utf8 true = keyword (codes "true") refl
flag_utf8 false = keyword (codes "false") refl

-- tokens

abbrev AllTexts : List Kind → Type 0
AllTexts kinds = All IsUtf8Token kinds

texts : (kind : Kind) (kinds : List Kind) → IsUtf8Token kind → AllTexts kinds → AllTexts (kind ∷ kinds)
texts kind kinds is are = All-cons IsUtf8Token kind kinds is are

each_texts : {T : Type 0} (kind : Kind) (print : T → List Kind → List Kind) (Is : T → Type 0) → IsUtf8Token kind
    → ((one : T) (rest : List Kind) → Is one → AllTexts rest → AllTexts (print one rest))
    → (all : List T) (rest : List Kind) → All Is all → AllTexts rest → AllTexts (spell_each kind print all rest)
each_texts kind print Is own each [] rest are behind = behind
each_texts kind print Is own each (first ∷ others) rest are behind =
    texts kind (print first (spell_each kind print others rest)) own
    (each first (spell_each kind print others rest) (All-head Is first others are) (each_texts kind print Is own each others rest (All-tail Is first others are) behind))

label_by : (is : Bool) (text : List ℕ) → IsUtf8 text → IsUtf8Token (label_token is text)
label_by true text utf8 = utf8
label_by false text utf8 = utf8

label_texts : (text : List ℕ) (rest : List Kind) → IsUtf8 text → AllTexts rest → AllTexts (print_label text rest)
label_texts text rest utf8 behind = texts (label_token (is_identifier text) text) rest (label_by (is_identifier text) text utf8) behind

name_texts : (entry : List ℕ × Oid) (rest : List Kind) → IsName entry.0 → AllTexts rest → AllTexts (print_dump_name entry rest)
name_texts entry rest named behind =
    texts (k.Word entry.0) (k.Local entry.1.0 ∷ rest) (identifier_utf8 entry.0 named.identifier) (texts (k.Local entry.1.0) rest tt behind)

value_texts : (value : Value) (rest : List Kind) → IsText value → AllTexts rest → AllTexts (spell_value value rest)
value_texts (Whole number) rest is behind = texts (k.Number number) rest tt behind
value_texts (Chars text) rest is behind = texts (k.Chars text) rest is behind
value_texts (Flag flag) rest is behind = texts (k.Word (flag_text flag)) rest (flag_utf8 flag) behind
value_texts Complex rest is behind = texts (k.Symbol s.LeftBrace) (k.Symbol s.RightBrace ∷ rest) tt (texts (k.Symbol s.RightBrace) rest tt behind)

object_texts : (entry : Oid × Value) (rest : List Kind) → IsText entry.1 → AllTexts rest → AllTexts (spell_dump_object entry rest)
object_texts entry rest is behind = texts (k.Local entry.0.0) (spell_value entry.1 rest) tt (value_texts entry.1 rest is behind)

edge_texts : (entry : Oid × List ℕ × Oid) (rest : List Kind) → IsUtf8 entry.1 → AllTexts rest → AllTexts (print_dump_edge entry rest)
edge_texts entry rest utf8 behind =
    texts (k.Local entry.0.0) (print_label entry.1 (k.Local entry.2.0 ∷ rest)) tt
    (label_texts entry.1 (k.Local entry.2.0 ∷ rest) utf8 (texts (k.Local entry.2.0) rest tt behind))

mode_texts : (mode : Mode) (rest : List Kind) → AllTexts rest → AllTexts (spell_mode mode rest)
mode_texts Auto rest behind = texts (k.Word (codes "auto")) rest (keyword (codes "auto") refl) behind
mode_texts Top rest behind = texts (k.Word (codes "top")) rest (keyword (codes "top") refl) behind
mode_texts Bottom rest behind = texts (k.Word (codes "bottom")) rest (keyword (codes "bottom") refl) behind
mode_texts Guided rest behind = texts (k.Word (codes "guide")) rest (keyword (codes "guide") refl) behind

number_texts : (word : List ℕ) (number : ℤ) (rest : List Kind) → is_identifier word ≡ true → AllTexts rest → AllTexts (k.Word word ∷ k.Number number ∷ rest)
number_texts word number rest is behind = texts (k.Word word) (k.Number number ∷ rest) (keyword word is) (texts (k.Number number) rest tt behind)

pub dump_texts : (db : Database) → IsRestorable db → AreTexts db → All IsUtf8Token (print_dump (dump_tree db) [])
dump_texts db is are =
    let text = dump_tree db in
    let labelled = All-map (λ (entry : Oid × List ℕ × Oid). IsUtf8 entry.1) (spelled_edge db.labels) db.graph.edges
    (λ i d low. text_among db.labels IsUtf8 are.labels (get_or db.graph.edges i d) (is.labelled i d low)) in
    let end_kinds = k.Word (codes "end") ∷ [] in
    let end = texts (k.Word (codes "end")) [] (keyword (codes "end") refl) (All-nil IsUtf8Token) in
    let edge_kinds = print_dump_edges text.edges end_kinds in
    let edges = each_texts (k.Word (codes "edge")) print_dump_edge (λ entry. IsUtf8 entry.1) (keyword (codes "edge") refl) edge_texts text.edges end_kinds labelled end in
    let object_kinds = spell_dump_objects text.objects edge_kinds in
    let objects = each_texts (k.Word (codes "object")) spell_dump_object (λ entry. IsText entry.1) (keyword (codes "object") refl) object_texts text.objects edge_kinds are.values edges in
    let name_kinds = print_dump_names text.names object_kinds in
    let names = each_texts (k.Word (codes "name")) print_dump_name (λ entry. IsName entry.0) (keyword (codes "name") refl) name_texts text.names object_kinds is.rooted.well_formed.names_formed objects in
    let label_kinds = print_dump_labels text.labels name_kinds in
    let labels = each_texts (k.Word (codes "label")) print_label IsUtf8 (keyword (codes "label") refl) label_texts text.labels name_kinds are.labels names in
    let plan_kinds = k.Word (codes "plan") ∷ spell_mode text.mode label_kinds in
    let plan = texts (k.Word (codes "plan")) (spell_mode text.mode label_kinds) (keyword (codes "plan") refl) (mode_texts text.mode label_kinds labels) in
    let nodes_kinds = k.Word (codes "nodes") ∷ k.Number text.nodes ∷ plan_kinds in
    number_texts (codes "oem") text.version (k.Word (codes "next") ∷ k.Number text.next ∷ nodes_kinds) refl
    (number_texts (codes "next") text.next nodes_kinds refl (number_texts (codes "nodes") text.nodes plan_kinds refl plan))
