-- Paths that end in a plain label.
use Rattle.std.specs.Prelude.{◌≡◌, ℕ, List, [], ◌∷◌, ◌++◌}
use Rattle.lore_base.specs.Paths.{PathTree, step, seq, trees_of}
use Rattle.planner.specs.Types.{Plain}

-- the path is made of parts, the last of which is the plain label with the text
abbrev pub EndsIn : PathTree → List ℕ → Type 0
EndsIn path label = (front : List PathTree) × (path ≡ seq (trees_of (front ++ step (Plain label) ∷ [])))
