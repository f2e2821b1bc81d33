-- What the program notes of the text of a select, to tell why it is refused.
use Rattle.std.specs.Prelude.{◌≡◌, ◌≢◌, ◌↔◌, ℕ, ◌≤◌, List, ◌++◌, length, None, AllPairs, Contains, IsTrue}
use Rattle.lorel_trees.specs.Trees.{SelectTree}
use Rattle.lorel_bind.specs.Types.{Oid, ITEMS, LEAVES}
use Rattle.lore_base.specs.Names.{object_of}
use Rattle.lorel_ranges.specs.Places as p
use Rattle.lorel_ranges.specs.Texts.{text_places}
use Rattle.lorel_bind.specs.Refusals.{leaves_in, HasUnknownName, HasUnknownVariable, HasDuplicate}
use Rattle.lorel_ranges.specs.Views.{place_trees, texts}
use Rattle.lorel_ranges.specs.declared.text.Text.{Text}
use Rattle.lorel_bind.specs.declared.causes.Ranged.{Ranged}
use Rattle.lorel_bind.specs.declared.causes.Unknown.{Unknown}

-- each path of the text, in text order
abbrev pub places_of : Text → List p.Place
places_of text = place_trees text.from.places.items
    ++ (place_trees text.items.places.items ++ place_trees text.condition.places.items)

-- each identifier that is ranged
abbrev pub ranged_of : Text → List (List ℕ)
ranged_of text = texts text.from.ranged.items ++ texts text.condition.ranged.items

-- one of the places starts at an identifier that is neither a variable in scope nor a name
abbrev pub StartsAmong : List (List ℕ × Oid) → List p.Place → List ℕ → Type 0
StartsAmong names places start = (place : p.Place) × Contains places place × (place.root ≡ p.named start)
    × (object_of names start ≡ None)

-- and at one that isn't ranged, or at one that is
abbrev pub StartsUnranged : List (List ℕ × Oid) → List (List ℕ) → List p.Place → Type 0
StartsUnranged names ranged places =
    (start : List ℕ) × StartsAmong names places start × (Contains ranged start → ⊥)

abbrev pub StartsRanged : List (List ℕ × Oid) → List (List ℕ) → List p.Place → Type 0
StartsRanged names ranged places =
    (start : List ℕ) × StartsAmong names places start × Contains ranged start

-- identifiers that are ranged are noted, and whether one is twice
pub record HasNoted (identifiers : List (List ℕ)) (ranged : Ranged) : Type 0 where
  pub known : (identifier : List ℕ) → Contains (texts ranged.texts.keys) identifier ↔ Contains identifiers identifier
  pub doubled : IsTrue ranged.doubled ↔ (AllPairs (λ a b. a ≢ b) identifiers → ⊥)

-- what the places start at is noted
pub record HasMet (names : List (List ℕ × Oid)) (ranged : List (List ℕ)) (places : List p.Place) (unknown : Unknown) : Type 0 where
  pub unranged : IsTrue unknown.names ↔ StartsUnranged names ranged places
  pub elsewhere : IsTrue unknown.variables ↔ StartsRanged names ranged places

-- no cause applies that can be told before ranges are made
pub record PassesText (names : List (List ℕ × Oid)) (query : SelectTree) : Type 0 where
  pub names_known : HasUnknownName names query → ⊥
  pub variables_known : HasUnknownVariable names query → ⊥
  pub ranged_once : HasDuplicate query → ⊥
  pub few_items : length query.items ≤ ITEMS
  pub few_leaves : leaves_in (text_places query) ≤ LEAVES
