-- Tables of label texts, what comes to them, and which texts fit a pattern.
use Rattle.std.specs.Prelude.{◌≡◌, ◌≢◌, ℕ, ◌+◌, ◌<◌, ◌^◌, if◌then◌else◌, List, [], ◌∷◌, ◌++◌, length, AllPairs}
use Rattle.std.specs.List.{list_any}
use Rattle.std.specs.Str.{bytes_eq}
use Rattle.lore_base.specs.Wildcards.{IsMatched}
use Rattle.oem_labels.specs.Types.{Label, Pattern, Plain, Wild}

-- distinct texts that a number of 32 bits counts
pub record AreLabels (texts : List (List ℕ)) : Type 0 where
  pub distinct : AllPairs (λ a b. a ≢ b) texts
  pub few : length texts < 2 ^ 32

-- the texts that are not known yet, each once, in the order of their first use
abbrev pub first_uses : List (List ℕ) → List (List ℕ) → List (List ℕ)
first_uses known [] = []
first_uses known (text ∷ texts) =
    if list_any (bytes_eq text) known then first_uses known texts
    else (text ∷ first_uses (known ++ text ∷ []) texts)

-- texts that come, and the whole table that is then where one comes
pub record PlannedLabels : Type 0 where
  pub come : List (List ℕ)
  pub whole : List (List ℕ)

-- the plan leads from the table with these texts
abbrev pub LeadsFrom : List (List ℕ) → PlannedLabels → Type 0
LeadsFrom texts plan = plan.come ≢ [] → plan.whole ≡ texts ++ plan.come

-- the text is the pattern's, or is matched by it
abbrev pub TextFits : Pattern → List ℕ → Type 0
TextFits (Plain own) text = own ≡ text
TextFits (Wild pattern) text = IsMatched pattern text

-- the place of a text among others, or how many there are where it isn't one of them
abbrev pub place_in : List (List ℕ) → List ℕ → ℕ
place_in [] text = 0
place_in (first ∷ others) text = if bytes_eq first text then 0 else (1 + place_in others text)

-- the label of a text in a table that has it
abbrev pub label_in : List (List ℕ) → List ℕ → Label
label_in texts text = record { 0 = place_in texts text }
