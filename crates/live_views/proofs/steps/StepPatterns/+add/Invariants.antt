use Rattle.std.proofs.Common.{◌⊎◌, ◌↔◌, ℕ, List, map, drop}
use Rattle.lore_base.specs.Paths.{path_tree, trees_of}
use Rattle.live_views.specs.Types.{Label}
use Rattle.live_views.specs.Concerns.{HasStepIn}
use Rattle.live_views.specs.inside.Looks.{TakesLabel}
use Rattle.live_views.proofs.steps.StepPatterns.+add.Given as goal

-- what is taken so far, and what the parts that are left take, is what was taken before and what all parts take
abbrev pub invariant-add_parts-parts : goal.invariant-add_parts-parts
invariant-add_parts-parts l = (labels : List (List ℕ)) (label : Label)
    → (TakesLabel labels l.self label ⊎ HasStepIn labels (trees_of (map path_tree (drop l.part-index l.parts))) label)
    ↔ (TakesLabel labels l.fn.self label ⊎ HasStepIn labels (trees_of (map path_tree l.parts)) label)
