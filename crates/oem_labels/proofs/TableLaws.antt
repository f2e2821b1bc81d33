-- What a table gains by one text and by the texts of a list.
use Rattle.std.proofs.Common.{◌≡◌, ◌≢◌, ℕ, ◌+◌, ◌<◌, ◌≤◌, true, List, [], ◌∷◌, ◌++◌, length, get_or, drop, Some, slice_get, AllPairs, inl, inr, sym, ap, ◌∙◌, arith, length-append, append-nil}
use Rattle.std.specs.List.{list_any}
use Rattle.std.specs.Str.{bytes_eq}
use Rattle.std.proofs.lemmas.List.{drop_more}
use Rattle.std.proofs.lemmas.Option.{slice_get_within, get_or_from_slice_get}
use Rattle.std.proofs.lemmas.Bool.{cases_Bool}
use Rattle.oem_labels.specs.Labels.{first_uses}
use Rattle.oem_labels.proofs.LabelLaws.{is_known, first_uses-known, first_uses-new}
use Rattle.oem_labels.proofs.TextSetLaws.{no_text, first_uses-apart}

-- a text that a label has is known
known-at : (known : List (List ℕ)) (place : ℕ) (text : List ℕ) → slice_get known place ≡ Some text → list_any (bytes_eq text) known ≡ true
known-at known place text there =
    is_known known text (place, slice_get_within known place text there, get_or_from_slice_get known place text text there)

pub gain-none : (known : List (List ℕ)) (place : ℕ) (text : List ℕ) → slice_get known place ≡ Some text → known ≡ known ++ first_uses known (text ∷ [])
gain-none known place text there =
    sym (append-nil known) ∙ ap (λ l. known ++ l) (sym (first_uses-known known text [] (known-at known place text there)))

pub gain-one : (known : List (List ℕ)) (text : List ℕ) → ((place : ℕ) → slice_get known place ≢ Some text) → first_uses known (text ∷ []) ≡ text ∷ []
gain-one known text nowhere = first_uses-new known text [] (no_text text known nowhere)

pub gain-known : (known texts : List (List ℕ)) (i place : ℕ) (text : List ℕ) → i < length texts → text ≡ get_or texts i text → slice_get known place ≡ Some text
    → first_uses known (drop (i + 1) texts) ≡ first_uses known (drop i texts)
gain-known known texts i place text low is there =
    let next = drop_more texts i text low ∙ ap (λ t. t ∷ drop (i + 1) texts) (sym is) in
    sym (first_uses-known known text (drop (i + 1) texts) (known-at known place text there)) ∙ ap (first_uses known) (sym next)

-- where a text that no label has is to come, something is used first
pub gain-some : (known texts : List (List ℕ)) (i : ℕ) (text : List ℕ) → i < length texts → text ≡ get_or texts i text → ((place : ℕ) → slice_get known place ≢ Some text)
    → first_uses known (drop i texts) ≢ []
gain-some known texts i text low is nowhere none =
    let next = drop_more texts i text low ∙ ap (λ t. t ∷ drop (i + 1) texts) (sym is) in
    let first = sym (ap (first_uses known) next ∙ first_uses-new known text (drop (i + 1) texts) (no_text text known nowhere)) ∙ none in
    absurd (cc)

front-few : (known : List (List ℕ)) (text : List ℕ) (texts : List (List ℕ)) → length (first_uses known (text ∷ [])) ≤ length (first_uses known (text ∷ texts))
front-few known text texts = elim (cases_Bool (list_any (bytes_eq text) known)) [
  | inl e ↦ (let none = ap length (first_uses-known known text [] e) in omega (arith, none))
  | inr e ↦ (
      let one = ap length (first_uses-new known text [] e) in
      let more = ap length (first_uses-new known text texts e) in
      omega (arith, one, more))
]

-- one text of a list brings no more than the list
pub gain-few : (known all texts : List (List ℕ)) (i n : ℕ) (text : List ℕ) → i < length texts → text ≡ get_or texts i text
    → known ++ first_uses known (drop i texts) ≡ all → length all < n → length known + length (first_uses known (text ∷ [])) < n
gain-few known all texts i n text low is same few =
    let next = drop_more texts i text low ∙ ap (λ t. t ∷ drop (i + 1) texts) (sym is) in
    let front = front-few known text (drop (i + 1) texts) in
    let whole = sym (length-append known (first_uses known (drop i texts))) ∙ ap length same in
    let all_of = ap (λ l. length (first_uses known l)) next in
    omega (arith, front, whole, all_of, few)

-- the texts of a table, put into an empty one
pub gain-all : (none texts : List (List ℕ)) → none ≡ [] → AllPairs (λ a b. a ≢ b) texts → none ++ first_uses none texts ≡ texts
gain-all none texts is apart = rw is (first_uses-apart [] texts apart)
