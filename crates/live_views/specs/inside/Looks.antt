-- What a select looks at, as the program keeps it.
use Rattle.std.specs.Prelude.{◌≡◌, ◌⊎◌, ◌↔◌, ℕ, List, Contains, IsTrue}
use Rattle.lore_base.specs.Paths.{trees_of, Fits}
use Rattle.lorel_trees.specs.Trees.{SelectTree}
use Rattle.lorel_ranges.specs.Places.{named, Place}
use Rattle.live_views.specs.Types.{Label, Pattern}
use Rattle.live_views.specs.Concerns.{IsStart, HasStepIn, IsStepped, ComparesValues}
use Rattle.live_views.specs.declared.steps.StepPatterns.{StepPatterns}
use Rattle.live_views.specs.declared.looks.Looks.{Looks}

-- one of the steps takes the label
abbrev pub TakesLabel : List (List ℕ) → StepPatterns → Label → Type 0
TakesLabel labels steps label =
    IsTrue steps.any ⊎ ((pattern : Pattern) × Contains steps.patterns pattern × Fits labels pattern label)

-- steps come that take what passes
abbrev pub GainsSteps : StepPatterns → StepPatterns → (List (List ℕ) → Label → Type 0) → Type 0
GainsSteps before after Passes = (labels : List (List ℕ)) (label : Label)
    → TakesLabel labels after label ↔ (TakesLabel labels before label ⊎ Passes labels label)

-- one of the places starts at the name
abbrev pub StartsIn : List Place → List ℕ → Type 0
StartsIn places name = (place : Place) × Contains places place × (place.root ≡ named name)

-- a step on the way to one of the places takes the label
abbrev pub SteppedIn : List (List ℕ) → List Place → Label → Type 0
SteppedIn labels places label =
    (place : Place) × Contains places place × HasStepIn labels (trees_of place.parts) label

-- the names and steps of these places
pub record LooksAt (places : List Place) (looks : Looks) : Type 0 where
  pub starts : (name : List ℕ) → Contains looks.starts name ↔ StartsIn places name
  pub steps : (labels : List (List ℕ)) (label : Label)
      → TakesLabel labels looks.steps label ↔ SteppedIn labels places label

-- what the select looks at
pub record IsLookOf (query : SelectTree) (looks : Looks) : Type 0 where
  pub starts : (name : List ℕ) → Contains looks.starts name ↔ IsStart query name
  pub steps : (labels : List (List ℕ)) (label : Label)
      → TakesLabel labels looks.steps label ↔ IsStepped labels query label
  pub compares : IsTrue looks.compares ↔ ComparesValues query
