-- What a literal brings, by what its layout makes, and the causes that are looked for once it is laid out.
use Rattle.std.proofs.Common.{◌≡◌, ℕ, ◌+◌, ◌<◌, ◌≤◌, List, [], ◌++◌, length, refl, sym, ap, ◌∙◌, inl, inr, arith, length-append}
use Rattle.std.proofs.lemmas.List.{length-map}
use Rattle.lore_base.specs.Verdicts.{IsFirst, IsClear}
use Rattle.lorel_trees.specs.Trees.{LiteralTree}
use Rattle.oem_labels.specs.Labels.{first_uses}
use Rattle.oem_text.specs.Types.{Oid, Edge, Value, LABELS, NEXT_NUMBER}
use Rattle.oem_text.specs.Types.refusals
use Rattle.oem_text.specs.Literals.{Body, bodies, labels_of, numbered, objects_of, edges_of}
use Rattle.oem_text.specs.Layouts.{LaidOut, layout_of, texts_of, edges_from, NumberedTexts, table_of, with_texts, count_with}
use Rattle.oem_text.specs.Parts.{LocalCause, local_order, PartCause, part_order}
use Rattle.oem_text.proofs.LayoutLaws.{edges-of_layout, texts-of_layout}
use Rattle.oem_text.proofs.LaidLaws.{with_first, count_first}

-- the numbers of a table alone
abbrev pub first_numbers : List (List ℕ) → NumberedTexts
first_numbers table = record { known = table; come = [] }

-- ---- what it brings
pub made_by : (next : ℕ) (literal : LiteralTree) (layout : LaidOut) (none made : List (Oid × Value)) → layout ≡ layout_of literal → none ≡ []
    → made ≡ none ++ numbered next layout.values → made ≡ objects_of next literal
made_by next literal layout none made is empty step =
    step ∙ ap (λ (l : List (Oid × Value)). l ++ numbered next layout.values) empty ∙ ap (λ (l : LaidOut). numbered next l.values) is

pub numbered_by : (table : List (List ℕ)) (literal : LiteralTree) (layout : LaidOut) (start numbers : NumberedTexts) → layout ≡ layout_of literal → start ≡ first_numbers table
    → numbers ≡ with_texts start (texts_of layout) → ◌≡◌ {A = NumberedTexts} numbers (record { known = table; come = first_uses table (labels_of literal) })
numbered_by table literal layout start numbers is first step =
    step ∙ ap (λ (n : NumberedTexts). with_texts n (texts_of layout)) first
    ∙ ap (with_texts (first_numbers table)) (ap texts_of is ∙ texts-of_layout literal) ∙ with_first table (labels_of literal)

pub labels_by : (table : List (List ℕ)) (literal : LiteralTree) (layout : LaidOut) (start numbers : NumberedTexts) → layout ≡ layout_of literal → start ≡ first_numbers table
    → numbers ≡ with_texts start (texts_of layout) → numbers.come ≡ first_uses table (labels_of literal)
labels_by table literal layout start numbers is first step = ap (λ (n : NumberedTexts). n.come) (numbered_by table literal layout start numbers is first step)

pub edges_by : (table labels : List (List ℕ)) (next : ℕ) (literal : LiteralTree) (layout : LaidOut) (start numbers : NumberedTexts) (edges : List Edge) → layout ≡ layout_of literal
    → start ≡ first_numbers table → numbers ≡ with_texts start (texts_of layout) → labels ≡ numbers.come → edges ≡ edges_from next (table_of numbers) layout
    → edges ≡ edges_of next (table ++ labels) literal
edges_by table labels next literal layout start numbers edges is first step come made =
    let same = numbered_by table literal layout start numbers is first step in
    let all : table_of numbers ≡ table ++ labels =
    ap table_of same ∙ ap (λ (l : List (List ℕ)). table ++ l) (sym (come ∙ ap (λ (n : NumberedTexts). n.come) same)) in
    made ∙ ap (λ (t : List (List ℕ)). edges_from next t layout) all ∙ ap (edges_from next (table ++ labels)) is ∙ edges-of_layout next (table ++ labels) literal

-- ---- why it is refused
pub count_by : (literal : LiteralTree) (layout : LaidOut) → layout ≡ layout_of literal → length layout.values ≡ length (bodies literal)
count_by literal layout is = ap (λ (l : LaidOut). length l.values) is ∙ length-map (bodies literal) (λ (body : Body). body.value)

pub labels_counted : (table : List (List ℕ)) (literal : LiteralTree) (layout : LaidOut) (start : NumberedTexts) → layout ≡ layout_of literal → start ≡ first_numbers table
    → count_with start (texts_of layout) ≡ length table + length (first_uses table (labels_of literal))
labels_counted table literal layout start is first =
    ap (λ (n : NumberedTexts). count_with n (texts_of layout)) first ∙ ap (count_with (first_numbers table)) (ap texts_of is ∙ texts-of_layout literal) ∙ count_first table (labels_of literal)

pub told_labels : (table : List (List ℕ)) (next : ℕ) (literal : LiteralTree) → IsClear (LocalCause literal) local_order → next + length (bodies literal) ≤ NEXT_NUMBER
    → LABELS < length table + length (first_uses table (labels_of literal)) → IsFirst (PartCause table next literal) part_order refusals.TooManyLabels
told_labels table next literal clear numbers many =
    inr (clear.0, inr (clear.1.0, inr ((λ past. absurd (omega (arith, past, numbers))), inl (many, refl))))

pub clear_all : (table : List (List ℕ)) (next : ℕ) (literal : LiteralTree) (layout : LaidOut) (start numbers : NumberedTexts) → IsClear (LocalCause literal) local_order
    → next + length (bodies literal) ≤ NEXT_NUMBER → layout ≡ layout_of literal → start ≡ first_numbers table → numbers ≡ with_texts start (texts_of layout)
    → length (table_of numbers) ≤ LABELS → IsClear (PartCause table next literal) part_order
clear_all table next literal layout start numbers clear few is first step within =
    let same = numbered_by table literal layout start numbers is first step in
    let size = ap (λ (n : NumberedTexts). length (table_of n)) same ∙ length-append table (first_uses table (labels_of literal)) in
    (clear.0, (clear.1.0, ((λ past. absurd (omega (arith, past, few))), ((λ past. absurd (omega (arith, past, size, within))), tt))))
