-- Texts that get labels: which come with a label and a literal's labels, and that a label stays when more texts come.
use Rattle.std.proofs.Common.{◌≡◌, ◌≢◌, ◌↔◌, IsTrue, ℕ, ◌+◌, ◌<◌, ◌≤◌, Bool, true, false, if◌then◌else◌, List, [], ◌∷◌, ◌++◌, Option, Some, slice_get, length, ◌*◌, length-append, append-nil, append_assoc, Contains, AllPairs, refl, sym, ap, subst, inl, inr, ◌∙◌, arith, true≢false}
use Rattle.std.specs.List.{list_any}
use Rattle.std.specs.Str.{bytes_eq}
use Rattle.std.proofs.lemmas.Bool.{cases_lt, false_from_ne_true}
use Rattle.std.proofs.lemmas.List.Elements.{All-head}
use Rattle.list_laws.proofs.PlaceLaws.{Contains-from_place, place_of_member}
use Rattle.oem_labels.proofs.PlaceLaws.{label_in-at}
use Rattle.oem_labels.specs.Labels.{first_uses, place_in, label_in}
use Rattle.oem_labels.proofs.LabelLaws.{known_text, is_known, first_uses-append, first_uses_cover}
use Rattle.oem_text.specs.Layouts.{LaidOut, texts_of, edges_from, NumberedTexts, table_of, with_texts, count_with}
use Rattle.oem_text.proofs.NumberLaws.{place_in-append}
use Rattle.updates.specs.Types.{Label, Edge}
use Rattle.lore_base.specs.Databases.{AreAscendingEdges}
use Rattle.updates.specs.inside.Stamps.{IsStamp}
use Rattle.updates.specs.Effects.{Pair, links}

-- ---- tests of limits
pub over : (b : Bool) (P : Type 0) → IsTrue b ↔ P → b ≡ true → P
over b P told is = told.0 is

pub under : (b : Bool) (a n : ℕ) → IsTrue b ↔ (a < n) → b ≡ false → n ≤ a
under b a n told is = elim (cases_lt a n) [
  | inl more ↦ absurd (true≢false (sym (told.1 more) ∙ is))
  | inr few ↦ few
]

-- the same where equal numbers are counted
pub grown_over : (b : Bool) (limit before copies each : ℕ) (from many size : ℕ) → from ≡ before → many ≡ copies → size ≡ each
    → IsTrue b ↔ (limit < from + many * size) → b ≡ true → limit < before + copies * each
grown_over b limit before copies each from many size begun counted sized told is =
    let one = over b (limit < from + many * size) told is in
    subst (λ n. limit < n + copies * each) begun (subst (λ n. limit < from + n * each) counted (subst (λ n. limit < from + many * n) sized one))

pub grown_under : (b : Bool) (limit before copies each : ℕ) (from many size : ℕ) → from ≡ before → many ≡ copies → size ≡ each
    → IsTrue b ↔ (limit < from + many * size) → b ≡ false → before + copies * each ≤ limit
grown_under b limit before copies each from many size begun counted sized told is =
    let one = under b limit (from + many * size) told is in
    subst (λ n. n + copies * each ≤ limit) begun (subst (λ n. from + n * each ≤ limit) counted (subst (λ n. from + many * n ≤ limit) sized one))

-- ---- a label by its text
-- the edges of rows by the text of their label
pub known_links : (texts : List (List ℕ)) (label : Label) (text : List ℕ) (rows : List Pair) → AllPairs (λ a b. a ≢ b) texts
    → slice_get texts label.0 ≡ Some text
    → links label rows ≡ (if list_any (bytes_eq text) texts then links (label_in texts text) rows else [])
known_links texts label text rows distinct at =
    ap (λ (l : Label). links l rows) (label_in-at texts label text distinct at)
    ∙ sym (ap (λ b. if b then links (label_in texts text) rows else []) (is_known texts text (Contains-from_place texts label.0 text at)))

pub unknown_links : (texts : List (List ℕ)) (text : List ℕ) (rows : List Pair) → ((label : Label) → slice_get texts label.0 ≢ Some text)
    → [] ≡ (if list_any (bytes_eq text) texts then links (label_in texts text) rows else [])
unknown_links texts text rows none =
    sym (ap (λ b. if b then links (label_in texts text) rows else [])
    (false_from_ne_true (list_any (bytes_eq text) texts) (λ h. let at = place_of_member texts text (known_text texts text h) in none (record { 0 = at.0 }) at.1)))

-- the numbers of a table alone
abbrev pub start : List (List ℕ) → NumberedTexts
start table = record { known = table; come = [] }

-- the texts that come with one, and with more behind it
abbrev pub with_label : List (List ℕ) → List ℕ → NumberedTexts
with_label table label = record { known = table; come = first_uses table (label ∷ []) }

abbrev pub with_all : List (List ℕ) → List ℕ → List (List ℕ) → NumberedTexts
with_all table label texts = record { known = table; come = first_uses table (label ∷ texts) }

module _ (table : List (List ℕ)) (label : List ℕ) where
  start_count : count_with (start table) (label ∷ []) ≡ length table + length (first_uses table (label ∷ []))
  start_count = ap (λ (l : List (List ℕ)). length l + length (first_uses l (label ∷ []))) (append-nil table)

  pub first_numbers : (numbers first : NumberedTexts) → numbers ≡ start table → first ≡ with_texts numbers (label ∷ []) → first ≡ with_label table label
  first_numbers numbers first begun is =
      is ∙ ap (λ (n : NumberedTexts). with_texts n (label ∷ [])) begun
      ∙ ap (λ (l : List (List ℕ)). record { known = table; come = first_uses l (label ∷ []) }) (append-nil table)

  pub first_count : (numbers : NumberedTexts) → numbers ≡ start table
      → count_with numbers (label ∷ []) ≡ length table + length (first_uses table (label ∷ []))
  first_count numbers begun = ap (λ (n : NumberedTexts). count_with n (label ∷ [])) begun ∙ start_count

  module _ (texts : List (List ℕ)) where
    split : first_uses table (label ∷ texts) ≡ first_uses table (label ∷ []) ++ first_uses (table ++ first_uses table (label ∷ [])) texts
    split = first_uses-append table (label ∷ []) texts

    pub all_numbers : (first last : NumberedTexts) → first ≡ with_label table label → last ≡ with_texts first texts → last ≡ with_all table label texts
    all_numbers first last begun is =
        is ∙ ap (λ (n : NumberedTexts). with_texts n texts) begun
        ∙ ap (λ (l : List (List ℕ)). record { known = table; come = l }) (sym split)

    pub all_count : (first : NumberedTexts) → first ≡ with_label table label
        → count_with first texts ≡ length table + length (first_uses table (label ∷ texts))
    all_count first begun =
        let own = first_uses table (label ∷ []) in
        let more = first_uses (table ++ own) texts in
        let counts : length (table ++ own) + length more ≡ length table + length (first_uses table (label ∷ texts)) =
        omega (arith, length-append table own, length-append own more, ap length split) in
        ap (λ (n : NumberedTexts). count_with n texts) begun ∙ counts

    -- the texts of the label alone are no more
    pub own_few : length (first_uses table (label ∷ [])) ≤ length (first_uses table (label ∷ texts))
    own_few =
        let own = first_uses table (label ∷ []) in
        omega (arith, length-append own (first_uses (table ++ own) texts), ap length split)

    -- and the label has the same number
    pub own_label : label_in (table ++ first_uses table (label ∷ [])) label ≡ label_in (table ++ first_uses table (label ∷ texts)) label
    own_label =
        let own = first_uses table (label ∷ []) in
        let more = first_uses (table ++ own) texts in
        let there = All-head (Contains (table ++ own)) label [] (first_uses_cover table (label ∷ [])) in
        let longer : (table ++ own) ++ more ≡ table ++ first_uses table (label ∷ texts) =
        append_assoc table own more ∙ ap (λ (l : List (List ℕ)). table ++ l) (sym split) in
        let place = sym (place_in-append (table ++ own) more label there) ∙ ap (λ (l : List (List ℕ)). place_in l label) longer in
        λ i. record { 0 = place i }

-- ---- a stamp
pub stamp_is : (table : List (List ℕ)) (text : List ℕ) (layout : LaidOut) (numbers first last : NumberedTexts) (label : Label) (listed sorted : List Edge) (texts : List (List ℕ))
    → numbers ≡ start table → first ≡ with_texts numbers (text ∷ []) → label ≡ label_in (table_of first) text
    → last ≡ with_texts first (texts_of layout) → listed ≡ edges_from 0 (table_of last) layout
    → AreAscendingEdges sorted → ((edge : Edge) → Contains sorted edge ↔ Contains listed edge) → texts ≡ last.come
    → IsStamp table text layout (record { label = label; edges = sorted; texts = texts })
stamp_is table text layout numbers first last label listed sorted texts begun own named more are ascend members told =
    let firsts = first_numbers table text numbers first begun own in
    let lasts = all_numbers table text (texts_of layout) first last firsts more in
    let come : texts ≡ first_uses table (text ∷ texts_of layout) = told ∙ ap (λ (n : NumberedTexts). n.come) lasts in
    let whole : table_of last ≡ table ++ texts = ap (λ (n : NumberedTexts). table_of n) lasts ∙ ap (λ (l : List (List ℕ)). table ++ l) (sym come) in
    let edges : listed ≡ edges_from 0 (table ++ texts) layout = are ∙ ap (λ (l : List (List ℕ)). edges_from 0 l layout) whole in
    record {
      texts = come;
      label = named ∙ ap (λ (n : NumberedTexts). label_in (table_of n) text) firsts ∙ own_label table text (texts_of layout)
          ∙ ap (λ (l : List (List ℕ)). label_in (table ++ l) text) (sym come);
      ascend = ascend;
      edges = λ edge. subst (λ (l : List Edge). Contains sorted edge ↔ Contains l edge) edges (members edge);
    }
