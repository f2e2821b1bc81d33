-- The labels of the generated database as they get their numbers one by one, and the part that it comes as.
use Rattle.std.proofs.Common.{◌≡◌, ℕ, ◌+◌, ◌<◌, ◌≤◌, List, [], ◌∷◌, ◌++◌, length, map, take, drop, get_or, Option, Some, IfSome, Contains, sym, ap, subst, ◌∙◌, arith, append_assoc, append-nil, length-append, take-append-drop}
use Rattle.std.proofs.lemmas.List.{take_more, take_all, length-map, get_or-map, map_push}
use denote.Ref.{Bor}
use Rattle.oem_labels.specs.Labels.{first_uses, label_in}
use Rattle.oem_text.specs.Types.{Label, Edge, LABELS}
use Rattle.oem_text.specs.Layouts.{edge_from, NumberedTexts, table_of, with_texts, count_with}
use Rattle.oem_text.specs.Generated.{generated_arcs, generated_labels}
use Rattle.oem_text.proofs.NumberLaws.{label_in-append, table-with, with_texts-append, has_text, count-then, count-front}
use Rattle.oem_text.proofs.LaidLaws.{with_first}
use Rattle.oem_text.proofs.PartLaws.{first_numbers}

-- ---- one label more
abbrev text_of : Bor (List ℕ) → List ℕ
text_of word = word.now

pub words_length : (words : List (Bor (List ℕ))) → map text_of words ≡ generated_labels → length words ≡ 10
words_length words all = sym (length-map words text_of) ∙ ap length all

pub word_here : (words : List (Bor (List ℕ))) (i : ℕ) (default : Bor (List ℕ)) (text : List ℕ) → map text_of words ≡ generated_labels → i < 10
    → text ≡ (get_or words i default).now → take (i + 1) generated_labels ≡ take i generated_labels ++ text ∷ []
word_here words i default text all low is =
    let read : get_or generated_labels i [] ≡ text =
    ap (λ (l : List (List ℕ)). get_or l i []) (sym all) ∙ get_or-map text_of words i default [] (omega (arith, words_length words all, low)) ∙ sym is in
    take_more generated_labels i [] low ∙ ap (λ (t : List ℕ). take i generated_labels ++ t ∷ []) read

pub words_more : (numbers after : NumberedTexts) (i : ℕ) (text : List ℕ) (before labels : List Label) (label : Label)
    → take (i + 1) generated_labels ≡ take i generated_labels ++ text ∷ [] → after ≡ with_texts numbers (text ∷ [])
    → ((more : List (List ℕ)) → before ≡ map (label_in (table_of numbers ++ more)) (take i generated_labels)) → labels ≡ before ++ label ∷ []
    → label ≡ label_in (table_of after) text → (more : List (List ℕ)) → labels ≡ map (label_in (table_of after ++ more)) (take (i + 1) generated_labels)
words_more numbers after i text before labels label taken step all pushed own more =
    let firsts = first_uses (table_of numbers) (text ∷ []) in
    let table : table_of after ≡ table_of numbers ++ firsts = ap table_of step ∙ table-with numbers (text ∷ []) in
    let wider : table_of numbers ++ (firsts ++ more) ≡ table_of after ++ more = sym (append_assoc (table_of numbers) firsts more) ∙ ap (λ (l : List (List ℕ)). l ++ more) (sym table) in
    let front = take i generated_labels in
    let earlier : before ≡ map (label_in (table_of after ++ more)) front =
    all (firsts ++ more) ∙ ap (λ (l : List (List ℕ)). map (label_in l) front) wider in
    let known = subst (λ (n : NumberedTexts). Contains (table_of n) text) (sym step) (has_text numbers text) in
    let same = own ∙ sym (label_in-append (table_of after) more text known) in
    pushed ∙ ap (λ (l : List Label). l ++ label ∷ []) earlier
    ∙ ap (λ (x : Label). map (label_in (table_of after ++ more)) front ++ x ∷ []) same
    ∙ sym (map_push (label_in (table_of after ++ more)) front text)
    ∙ ap (map (label_in (table_of after ++ more))) (sym taken)

pub texts_more : (start numbers after : NumberedTexts) (i : ℕ) (text : List ℕ) → take (i + 1) generated_labels ≡ take i generated_labels ++ text ∷ []
    → numbers ≡ with_texts start (take i generated_labels) → after ≡ with_texts numbers (text ∷ []) → after ≡ with_texts start (take (i + 1) generated_labels)
texts_more start numbers after i text taken before step =
    step ∙ ap (λ (n : NumberedTexts). with_texts n (text ∷ [])) before ∙ with_texts-append start (take i generated_labels) (text ∷ [])
    ∙ ap (with_texts start) (sym taken)

-- more labels than a table holds so far are more for all
pub words_past : (start numbers : NumberedTexts) (i : ℕ) (text : List ℕ) → take (i + 1) generated_labels ≡ take i generated_labels ++ text ∷ []
    → numbers ≡ with_texts start (take i generated_labels) → LABELS < count_with numbers (text ∷ []) → LABELS < count_with start generated_labels
words_past start numbers i text taken before past =
    let front = take (i + 1) generated_labels in
    let now : count_with numbers (text ∷ []) ≡ count_with start front =
    ap (λ (n : NumberedTexts). count_with n (text ∷ [])) before ∙ count-then start (take i generated_labels) (text ∷ []) ∙ ap (count_with start) (sym taken) in
    let whole = ap (count_with start) (take-append-drop (i + 1) generated_labels) in
    let longer = count-front start front (drop (i + 1) generated_labels) in
    omega (arith, now, whole, longer, past)

-- ---- all of them
pub words_all : (numbers : NumberedTexts) (labels : List Label) (i : ℕ) → 10 ≤ i
    → ((more : List (List ℕ)) → labels ≡ map (label_in (table_of numbers ++ more)) (take i generated_labels))
    → labels ≡ map (label_in (table_of numbers)) generated_labels
words_all numbers labels i past all =
    all [] ∙ ap (λ (t : List (List ℕ)). map (label_in t) (take i generated_labels)) (append-nil (table_of numbers))
    ∙ ap (map (label_in (table_of numbers))) (take_all i generated_labels past)

pub texts_all : (start numbers : NumberedTexts) (i : ℕ) → 10 ≤ i → numbers ≡ with_texts start (take i generated_labels) → numbers ≡ with_texts start generated_labels
texts_all start numbers i past step = step ∙ ap (with_texts start) (take_all i generated_labels past)

pub words_few : (start numbers : NumberedTexts) (i : ℕ) → 10 ≤ i → numbers ≡ with_texts start (take i generated_labels) → length (table_of numbers) ≤ LABELS
    → count_with start generated_labels ≤ LABELS
words_few start numbers i past step few =
    let all = texts_all start numbers i past step in
    let size = ap (λ (n : NumberedTexts). length (table_of n)) all ∙ ap length (table-with start generated_labels)
    ∙ length-append (table_of start) (first_uses (table_of start) generated_labels) in
    omega (arith, size, few)

-- ---- the part
-- what holds of an option's item
pub when_some : {X : Type 0} (found : Option X) (x : X) → found ≡ Some x → (P : X → Type 0) → IfSome found P → P x
when_some {X} found x is P h = subst (λ (o : Option X). IfSome o P) is h

texts_of_part : (table : List (List ℕ)) (start numbers : NumberedTexts) → start ≡ first_numbers table → numbers ≡ with_texts start generated_labels
    → ◌≡◌ {A = NumberedTexts} numbers (record { known = table; come = first_uses table generated_labels })
texts_of_part table start numbers first step = step ∙ ap (λ (n : NumberedTexts). with_texts n generated_labels) first ∙ with_first table generated_labels

pub labels_by : (table : List (List ℕ)) (start numbers : NumberedTexts) → start ≡ first_numbers table → numbers ≡ with_texts start generated_labels
    → numbers.come ≡ first_uses table generated_labels
labels_by table start numbers first step = ap (λ (n : NumberedTexts). n.come) (texts_of_part table start numbers first step)

pub edges_by : (table labels : List (List ℕ)) (next count : ℕ) (start numbers : NumberedTexts) (edges : List Edge) → start ≡ first_numbers table
    → numbers ≡ with_texts start generated_labels → labels ≡ numbers.come → edges ≡ map (edge_from next (table_of numbers)) (generated_arcs count)
    → edges ≡ map (edge_from next (table ++ labels)) (generated_arcs count)
edges_by table labels next count start numbers edges first step come made =
    let same = texts_of_part table start numbers first step in
    let all : table_of numbers ≡ table ++ labels =
    ap table_of same ∙ ap (λ (l : List (List ℕ)). table ++ l) (sym (come ∙ ap (λ (n : NumberedTexts). n.come) same)) in
    made ∙ ap (λ (t : List (List ℕ)). map (edge_from next t) (generated_arcs count)) all
