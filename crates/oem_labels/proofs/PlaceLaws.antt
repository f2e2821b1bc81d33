-- The place of a text in a table: below its length, and where no text stands twice the only place where it stands.
use Rattle.std.proofs.Common.{◌≡◌, ◌≢◌, ℕ, zero, suc, ◌+◌, ◌<◌, Bool, true≢false, if◌then◌else◌, List, [], ◌∷◌, length, Some, slice_get}
use Rattle.std.proofs.Common.{AllPairs, Contains, sym, ap, ◌∙◌, inl, inr, arith}
use Rattle.std.specs.Str.{bytes_eq}
use Rattle.std.proofs.lemmas.Option.{none-some, same_Some}
use Rattle.std.proofs.lemmas.Slice.Eq.{bytes_eq-Decides}
use Rattle.std.proofs.lemmas.Bool.{cases_Bool}
use Rattle.lore_base.proofs.ListLaws.{AllPairs-head, AllPairs-tail}
use Rattle.lore_base.proofs.MemberLaws.{Contains-none, Contains-cases}
use Rattle.list_laws.proofs.PlaceLaws.{Contains-from_place}
use Rattle.oem_labels.specs.Labels.{place_in, label_in}
use Rattle.oem_labels.specs.Types.{Label}

-- the place of a text is the only one where it stands
pub place_in-at : (texts : List (List ℕ)) (i : ℕ) (text : List ℕ) → AllPairs (λ a b. a ≢ b) texts → slice_get texts i ≡ Some text → place_in texts text ≡ i
place_in-at [] i text distinct h = absurd (none-some text h)
place_in-at (other ∷ texts) zero text distinct h =
    ap (λ (b : Bool). if b then 0 else (1 + place_in texts text)) ((bytes_eq-Decides other text).1 (same_Some other text h))
place_in-at (other ∷ texts) (suc i) text distinct h =
    let there : Contains texts text = Contains-from_place texts i text h in
    let apart = AllPairs-head (λ (a b : List ℕ). a ≢ b) other texts distinct text there in
    let rest = place_in-at texts i text (AllPairs-tail (λ (a b : List ℕ). a ≢ b) other texts distinct) h in
    elim (cases_Bool (bytes_eq other text)) [
      | inl same ↦ absurd (apart ((bytes_eq-Decides other text).0 same))
      | inr unlike ↦ (
          let later : place_in (other ∷ texts) text ≡ 1 + place_in texts text = ap (λ (b : Bool). if b then 0 else (1 + place_in texts text)) unlike in
          later ∙ omega (arith, rest))
    ]

pub label_in-at : (texts : List (List ℕ)) (label : Label) (text : List ℕ) → AllPairs (λ a b. a ≢ b) texts → slice_get texts label.0 ≡ Some text
    → label ≡ label_in texts text
label_in-at texts label text distinct h = ap (λ (n : ℕ). let made : Label = record { 0 = n } in made) (sym (place_in-at texts label.0 text distinct h))

pub place_in-below : (table : List (List ℕ)) (text : List ℕ) → Contains table text → place_in table text < length table
place_in-below [] text at = absurd (Contains-none text at)
place_in-below (first ∷ table) text at =
    elim (cases_Bool (bytes_eq first text)) [
      | inl is ↦ (
          let here : place_in (first ∷ table) text ≡ 0 = ap (λ (b : Bool). if b then 0 else (1 + place_in table text)) is in
          omega (arith, here))
      | inr apart ↦ (
          let behind : place_in (first ∷ table) text ≡ 1 + place_in table text = ap (λ (b : Bool). if b then 0 else (1 + place_in table text)) apart in
          elim (Contains-cases first table text at) [
            | inl same ↦ absurd (true≢false (sym ((bytes_eq-Decides first text).1 same) ∙ apart))
            | inr later ↦ (let low = place_in-below table text later in omega (arith, behind, low))
          ])
    ]
