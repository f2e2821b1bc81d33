-- The line of a node from its origin and the lines before it.
use Rattle.std.specs.Prelude.{◌≡◌, ℕ, ◌-◌, ◌<◌, List, [], ◌∷◌, ◌++◌, length, take, slice_get}
use Rattle.std.specs.Prelude.{Option, Some, None, unwrap_or}
use Rattle.dataguide.specs.Guides.{GuideGraph, sets_of}
use Rattle.guide_query.specs.Types.{Node, GuideNode, Origin, Unmet, Named, Step}
use Rattle.guide_query.specs.GuideLines.{label_text, size_text}

-- the size of the set of a node, 0 where there is no such node
abbrev pub size_at : List GuideNode → ℕ → ℕ
size_at nodes k = length (unwrap_or (slice_get (sets_of nodes) k) [])

abbrev pub origin_at : List Origin → ℕ → Origin
origin_at origins k = unwrap_or (slice_get origins k) Unmet

-- the text of the path in a line, before the size
abbrev pub path_in : List ℕ → ℕ → List ℕ
path_in line size = take (length line - length (size_text size)) line

-- the name of an entry, where there is one
abbrev pub name_text : Option (List ℕ × Node) → List ℕ
name_text None = []
name_text (Some entry) = entry.0

-- a label behind a dot, where it has a text
abbrev pub step_text : Option (List ℕ) → List ℕ
step_text None = []
step_text (Some label) = 46 ∷ label_text label

module _ (guide : GuideGraph) (labels : List (List ℕ)) where
  -- the path that a mention gives: a name, or the path in an earlier line with one label more
  abbrev pub origin_text : List (List ℕ) → Origin → List ℕ
  origin_text lines Unmet = []
  origin_text lines (Named place) = name_text (slice_get guide.entries place)
  origin_text lines (Step from label) =
      path_in (unwrap_or (slice_get lines from.0) []) (size_at guide.nodes from.0)
      ++ step_text (slice_get labels label.0)

  abbrev pub node_line : List (List ℕ) → Origin → ℕ → List ℕ
  node_line lines origin size = origin_text lines origin ++ size_text size

  -- each line is made from those before it
  pub record AreWritten (origins : List Origin) (until : ℕ) (lines : List (List ℕ)) : Type 0 where
    pub long : length lines ≡ until
    pub each : (k : ℕ) → k < until
        → slice_get lines k ≡ Some (node_line (take k lines) (origin_at origins k) (size_at guide.nodes k))
