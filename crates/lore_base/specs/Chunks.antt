-- The chunks of a script, which `;` ends.
use Rattle.std.specs.Prelude.{ℕ, List, [], ◌∷◌, ◌++◌}
use Rattle.std.specs.List.{flat_map}

-- chunks one after another, each with the `;` behind it
abbrev pub joined_chunks : List (List ℕ) → List ℕ
joined_chunks chunks = flat_map (λ chunk. chunk ++ 59 ∷ []) chunks
