-- An item that is put behind others, or isn't.
use Rattle.std.specs.Prelude.{Bool, true, false, List, [], ◌∷◌}

-- the item, unless it is out
abbrev pub item_unless : {X : Type 0} → Bool → X → List X
item_unless true item = []
item_unless false item = item ∷ []

-- the item where it passes
abbrev pub item_if : {X : Type 0} → Bool → X → List X
item_if true item = item ∷ []
item_if false item = []
