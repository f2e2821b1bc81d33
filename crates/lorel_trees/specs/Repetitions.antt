-- What a rule of the grammar repeats: the tokens of a list, and how deep it nests.
use Rattle.std.specs.Prelude.{ℕ, max, List, [], ◌∷◌}
use Rattle.lorel_trees.specs.Types.{Kind}

-- each of these behind this token, and then the tokens that follow
abbrev pub spell_each : {D : Type 0} → Kind → (D → List Kind → List Kind) → List D → List Kind → List Kind
spell_each kind spell [] rest = rest
spell_each kind spell (first ∷ others) rest = kind ∷ spell first (spell_each kind spell others rest)

-- how deep the deepest of these nests
abbrev pub nest_each : {D : Type 0} → (D → ℕ) → List D → ℕ
nest_each nest [] = 0
nest_each nest (first ∷ others) = max (nest first) (nest_each nest others)
