-- The words of plain labels one after another.
use Rattle.std.proofs.Common.{◌≡◌, ◌≢◌, ◌↔◌, ℕ, ◌+◌, ◌<◌, inl, inr, Some, List, [], ◌∷◌, ◌++◌, length, map, take, get_or, AllPairs, Contains, append_assoc, refl, sym, ap, ◌∙◌, subst}
use Rattle.std.specs.List.{slice_get}
use Rattle.std.proofs.lemmas.List.{append-nil, map_more}
use Rattle.std.proofs.lemmas.List.Elements.{Contains-get_or}
use Rattle.lore_base.specs.Paths.{PathTree, path_tree, path_step, list_step, trees_of, step, Spells, SpellInTurn}
use Rattle.lore_base.specs.declared.paths.Path.{Path, Step}
use Rattle.lore_base.specs.declared.paths.Path.TheVariants.{rolls-Step}
use Rattle.lore_base.specs.declared.paths.Path.TheOpen as layer
use Rattle.lore_base.specs.declared.paths.Path.TheFolds.{fold-roll-Path}
use Rattle.lore_base.proofs.MemberLaws.{Contains-none, Contains-cases}
use Rattle.list_laws.proofs.MemberLaws.{Contains-map}
use Rattle.list_laws.proofs.PlaceLaws.{one_place}
use Rattle.word_walks.specs.Types.{Label, Pattern, Plain}
use Rattle.word_walks.specs.WordWalks.{IsPlainLabel, ArePlain}

-- the plain data of a step
pub step_tree : (path : Path) (pattern : Pattern) → path ≡ Step pattern → path_tree path ≡ step pattern
step_tree path pattern is = ap path_tree (is ∙ sym (rolls-Step pattern)) ∙ fold-roll-Path PathTree (List PathTree) path_step list_step (layer.Step pattern)

-- labels of one number are one label
pub same_label : (a b : Label) → a.0 ≡ b.0 → a ≡ b
same_label a b is = λ i. record { 0 = is i }

-- over distinct texts a plain label is the one with its text
pub label_alone : (labels : List (List ℕ)) (text : List ℕ) (label : Label) → AllPairs (λ a b. a ≢ b) labels → slice_get labels label.0 ≡ Some text
    → (word : List Label) → Spells labels (step (Plain text)) word ↔ (word ≡ label ∷ [])
label_alone labels text label apart at word = (
  λ h. h.1 ∙ ap (λ (l : Label). l ∷ []) (same_label h.0 label (one_place labels apart (h.0).0 label.0 text h.2 at)),
  λ is. (label, is, at),
)

-- the part at a place is among them
there : (parts : List Path) (i : ℕ) (part : Path) → i < length parts → part ≡ get_or parts i part → Contains (map path_tree parts) (path_tree part)
there parts i part within at = Contains-map path_tree parts part (subst (Contains parts) (sym at) (Contains-get_or parts i part within))

module _ (labels : List (List ℕ)) where
  -- what some parts and one more spell
  turn_parts : (parts : List PathTree) (part : PathTree) (word : List Label) → SpellInTurn labels (trees_of (parts ++ part ∷ [])) word
      → (first : List Label) × (rest : List Label) × (word ≡ first ++ rest) × SpellInTurn labels (trees_of parts) first × Spells labels part rest
  turn_parts [] part word h = ([], h.0, h.2 ∙ ap (λ (l : List Label). h.0 ++ l) h.4 ∙ append-nil h.0, refl, h.3)
  turn_parts (next ∷ parts) part word h =
      let later = turn_parts parts part h.1 h.4 in (
        h.0 ++ later.0,
        later.1,
        h.2 ∙ ap (λ (l : List Label). h.0 ++ l) later.2 ∙ sym (append_assoc h.0 later.0 later.1),
        (h.0, later.0, refl, h.3, later.3),
        later.4,
      )

  turn_joined : (parts : List PathTree) (part : PathTree) (first rest : List Label) → SpellInTurn labels (trees_of parts) first → Spells labels part rest
      → SpellInTurn labels (trees_of (parts ++ part ∷ [])) (first ++ rest)
  turn_joined [] part first rest none last = (rest, [], ap (λ (l : List Label). l ++ rest) none ∙ sym (append-nil rest), last, refl)
  turn_joined (next ∷ parts) part first rest h last =
      (h.0, h.1 ++ rest, ap (λ (l : List Label). l ++ rest) h.2 ∙ append_assoc h.0 h.1 rest, h.3, turn_joined parts part h.1 rest h.4 last)

  -- one label more
  turn_more : (parts : List PathTree) (part : PathTree) (own : List Label) (label : Label)
      → ((word : List Label) → SpellInTurn labels (trees_of parts) word ↔ (word ≡ own)) → ((word : List Label) → Spells labels part word ↔ (word ≡ label ∷ []))
      → (word : List Label) → SpellInTurn labels (trees_of (parts ++ part ∷ [])) word ↔ (word ≡ own ++ label ∷ [])
  turn_more parts part own label so_far one word = (
    λ h.
        let split = turn_parts parts part word h in
        split.2 ∙ ap (λ (l : List Label). l ++ split.1) ((so_far split.0).0 split.3) ∙ ap (λ (l : List Label). own ++ l) ((one split.1).0 split.4),
    λ is. subst (SpellInTurn labels (trees_of (parts ++ part ∷ []))) (sym is)
        (turn_joined parts part own (label ∷ []) ((so_far own).1 refl) ((one (label ∷ [])).1 refl)),
  )

  pub label_more : (parts : List Path) (i : ℕ) (part : Path) (own new : List Label) (label : Label) → i < length parts → part ≡ get_or parts i part
      → new ≡ own ++ label ∷ [] → ((word : List Label) → SpellInTurn labels (trees_of (map path_tree (take i parts))) word ↔ (word ≡ own))
      → ((word : List Label) → Spells labels (path_tree part) word ↔ (word ≡ label ∷ []))
      → (word : List Label) → SpellInTurn labels (trees_of (map path_tree (take (i + 1) parts))) word ↔ (word ≡ new)
  label_more parts i part own new label within at is so_far one word =
      subst (λ (l : List PathTree). SpellInTurn labels (trees_of l) word ↔ (word ≡ new))
      (sym (map_more path_tree parts i part within ∙ ap (λ (p : Path). map path_tree (take i parts) ++ path_tree p ∷ []) (sym at)))
      (subst (λ (l : List Label). SpellInTurn labels (trees_of (map path_tree (take i parts) ++ path_tree part ∷ [])) word ↔ (word ≡ l)) (sym is)
      (turn_more (map path_tree (take i parts)) (path_tree part) own label so_far one word))

  -- parts among which is one that spells no word
  turn_lacks : (parts : List PathTree) (part : PathTree) → Contains parts part → ((word : List Label) → Spells labels part word → ⊥)
      → (word : List Label) → SpellInTurn labels (trees_of parts) word → ⊥
  turn_lacks [] part at lacks word h = absurd (Contains-none part at)
  turn_lacks (first ∷ parts) part at lacks word h = elim (Contains-cases first parts part at) [
    | inl same ↦ lacks h.0 (subst (λ (p : PathTree). Spells labels p h.0) same h.3)
    | inr later ↦ turn_lacks parts part later lacks h.1 h.4
  ]

  pub label_lacks : (parts : List Path) (i : ℕ) (part : Path) → i < length parts → part ≡ get_or parts i part
      → ((word : List Label) → Spells labels (path_tree part) word → ⊥) → (word : List Label) → SpellInTurn labels (trees_of (map path_tree parts)) word → ⊥
  label_lacks parts i part within at lacks = turn_lacks (map path_tree parts) (path_tree part) (there parts i part within at) lacks

-- each of some plain labels is one
plain_each : (parts : List PathTree) (part : PathTree) → Contains parts part → ArePlain (trees_of parts) → IsPlainLabel part
plain_each [] part at plain = absurd (Contains-none part at)
plain_each (first ∷ parts) part at plain = elim (Contains-cases first parts part at) [
  | inl same ↦ subst IsPlainLabel same plain.0
  | inr later ↦ plain_each parts part later plain.1
]

pub other_part : (parts : List Path) (i : ℕ) (part : Path) → i < length parts → part ≡ get_or parts i part → (IsPlainLabel (path_tree part) → ⊥)
    → ArePlain (trees_of (map path_tree parts)) → ⊥
other_part parts i part within at other plain =
    other (plain_each (map path_tree parts) (path_tree part) (there parts i part within at) plain)
