-- What a table of labels tells of one label of a path.
use Rattle.std.specs.Prelude.{◌≡◌, ◌↔◌, ℕ, List, [], ◌∷◌}
use Rattle.lore_base.specs.Paths.{PathTree, Spells}
use Rattle.word_walks.specs.Types.{Label}
use Rattle.word_walks.specs.WordWalks.{IsPlainLabel}
use Rattle.word_walks.specs.declared.look_ups.LookUp.{LookUp}
use Rattle.word_walks.specs.declared.look_ups.LookUp.TheVariants.{Found, Lacking, Other}

abbrev pub IsLookedUp : List (List ℕ) → PathTree → LookUp → Type 0
IsLookedUp labels path (Found label) = (word : List Label) → Spells labels path word ↔ (word ≡ label ∷ [])
IsLookedUp labels path Lacking = (word : List Label) → Spells labels path word → ⊥
IsLookedUp labels path Other = IsPlainLabel path → ⊥
