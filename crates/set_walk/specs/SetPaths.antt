-- What a graph of sets tells of paths: its nodes are walked along labels as objects are, and a node has
-- objects.
use Rattle.std.specs.Prelude.{◌≡◌, ℕ, List, [], ◌∷◌, Option, Some}
use Rattle.lore_base.specs.Paths.{PathTree, Spells}
use Rattle.set_walk.specs.Types.{Oid, Label}

-- the word of labels leads from one node to another
abbrev pub LeadsAlong : {N : Type 0} → (N → Label → N → Type 0) → N → List Label → N → Type 0
LeadsAlong goes from [] to = from ≡ to
LeadsAlong {N} goes from (label ∷ word) to =
    (next : N) × goes from label next × LeadsAlong goes next word to

-- the path reaches the object from the start: a word that it spells leads from there to a node that has the
-- object
pub record IsReachedBySets {N : Type 0} (labels : List (List ℕ)) (goes : N → Label → N → Type 0)
    (has : N → Oid → Type 0) (path : PathTree) (start : Option N) (oid : Oid) : Type 0 where
  pub entry : N
  pub enters : start ≡ Some entry
  pub word : List Label
  pub spelled : Spells labels path word
  pub last : N
  pub leads : LeadsAlong goes entry word last
  pub member : has last oid
