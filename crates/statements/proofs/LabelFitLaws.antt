-- The texts that a list uses first come to a table: none of them is there, none comes twice, and the labels of all texts
-- of the list are those of the table then.
use Rattle.std.proofs.Common.{◌≡◌, ◌≢◌, inl, inr, ℕ, ◌+◌, ◌<◌, Bool, true, false, if◌then◌else◌, List, [], ◌∷◌, ◌++◌, length, All, AllPairs, Contains, refl, ap, arith}
use Rattle.std.specs.Str.{bytes_eq}
use Rattle.std.proofs.lemmas.List.Elements.{Contains-append_right}
use Rattle.lore_base.specs.Names.{IsLabel}
use Rattle.lore_base.proofs.MemberLaws.{Contains-none, Contains-cases}
use Rattle.lore_base.proofs.ListLaws.{AllPairs-head, AllPairs-tail}
use Rattle.list_laws.proofs.PairLaws.{AllPairs-back}
use Rattle.list_laws.proofs.MemberLaws.{All-from_members}
use Rattle.oem_labels.specs.Labels.{first_uses, place_in}
use Rattle.oem_labels.proofs.LabelLaws.{first_uses_distinct, All-first_uses}

-- ---- lists apart
apart_across : (known fresh : List (List ℕ)) → AllPairs (λ a b. a ≢ b) (known ++ fresh) → (text : List ℕ) → Contains fresh text → Contains known text → ⊥
apart_across [] fresh apart text at old = Contains-none text old
apart_across (first ∷ known) fresh apart text at old = elim (Contains-cases first known text old) [
  | inl same ↦ AllPairs-head (λ a b. a ≢ b) first (known ++ fresh) apart text (Contains-append_right known fresh text at) same
  | inr later ↦ apart_across known fresh (AllPairs-tail (λ a b. a ≢ b) first (known ++ fresh) apart) text at later
]

-- ---- texts that come
module _ (table texts : List (List ℕ)) (distinct : AllPairs (λ a b. a ≢ b) table) where
  pub labels_come_new : All (λ text. ¬ Contains table text) (first_uses table texts)
  labels_come_new = All-from_members (λ (text : List ℕ). ¬ Contains table text) (first_uses table texts)
      (λ text at old. apart_across table (first_uses table texts) (first_uses_distinct table texts distinct) text at old)

  pub labels_come_once : AllPairs (λ a b. a ≢ b) (first_uses table texts)
  labels_come_once = AllPairs-back (λ (a b : List ℕ). a ≢ b) table (first_uses table texts) (first_uses_distinct table texts distinct)

pub labels_come_formed : (table texts : List (List ℕ)) → All IsLabel texts → All IsLabel (first_uses table texts)
labels_come_formed table texts formed = All-first_uses IsLabel table texts formed

-- ---- labels of texts
place_from : (test : Bool) (first : List ℕ) (texts : List (List ℕ)) (text : List ℕ) → bytes_eq first text ≡ test
    → (test ≡ false → place_in texts text < length texts) → place_in (first ∷ texts) text < length (first ∷ texts)
place_from true first texts text is later =
    let here : place_in (first ∷ texts) text ≡ 0 = ap (λ b. if b then 0 else (1 + place_in texts text)) is in omega (arith, here)
place_from false first texts text is later =
    let behind : place_in (first ∷ texts) text ≡ 1 + place_in texts text = ap (λ b. if b then 0 else (1 + place_in texts text)) is in
    omega (arith, behind, later refl)
