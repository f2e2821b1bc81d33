-- Laws of the lines of blocks.
use Rattle.std.specs.Prelude.{◌≡◌, ℕ, List}
use Rattle.one_index.specs.Blocks.{NamedGraph, IsSound}
use Rattle.block_lines.specs.BlockLines.{AreBlockLines}

-- a graph has one list of lines
abbrev pub HasOneListOfLines : Type 0
HasOneListOfLines = (graph : NamedGraph) (lines others : List (List ℕ))
    → AreBlockLines graph lines → AreBlockLines graph others → lines ≡ others

-- and a sound one has such a list
abbrev pub LinesExist : Type 0
LinesExist = (graph : NamedGraph) → IsSound graph → (lines : List (List ℕ)) × AreBlockLines graph lines
