-- How label paths are printed, and the lines of a guide.
use Rattle.std.specs.Prelude.{◌≡◌, ℕ, ◌<◌, List, [], ◌∷◌, ◌++◌, length, codes, decimal, All}
use Rattle.std.specs.List.{AllZip, flat_map}
use Rattle.lore_base.specs.Names.{IsNameTable}
pub use Rattle.lore_base.specs.Printed.{label_text}
use Rattle.lore_base.specs.TargetSets.{LabelPath, HasTexts, AreTargetSets}
use Rattle.lore_base.specs.PathOrder.{IsLeastPath, AreInPathOrder}
use Rattle.dataguide.specs.Guides.{GuideGraph, IsOrderedGuide}
use Rattle.guide_query.specs.Types.{Oid, Edge}

-- Printing.

-- a label path: its name, and each label behind a dot
abbrev pub path_text : List ℕ → List (List ℕ) → List ℕ
path_text name labels = name ++ flat_map (λ label. 46 ∷ label_text label) labels

-- the size of a set behind the text of its path
abbrev pub size_text : ℕ → List ℕ
size_text size = codes " " ++ decimal size

abbrev pub count_line : ℕ → List ℕ
count_line count = codes "nodes " ++ decimal count

-- Lines.

-- the line of a set: the least of the label paths that lead to it, and how many objects the set has
pub record IsSetLine (names : List (List ℕ × Oid)) (edges : List Edge) (labels : List (List ℕ))
    (set : List Oid) (line : List ℕ) : Type 0 where
  pub path : LabelPath
  pub least : IsLeastPath names edges path set
  pub texts : List (List ℕ)
  pub labelled : HasTexts labels texts path.word
  pub printed : line ≡ path_text path.name texts ++ size_text (length set)

-- a line for each set that label paths lead to, in the order of their least paths, and then their number
pub record AreGuideLines (names : List (List ℕ × Oid)) (edges : List Edge) (labels : List (List ℕ))
    (lines : List (List ℕ)) : Type 0 where
  pub sets : List (List Oid)
  pub targets : AreTargetSets names edges sets
  pub order : AreInPathOrder names edges sets
  pub set_lines : List (List ℕ)
  pub each : AllZip (IsSetLine names edges labels) sets set_lines
  pub are : lines ≡ set_lines ++ count_line (length sets) ∷ []

-- the guide is that of these names and edges, whose labels have texts
pub record IsLabelledGuide (guide : GuideGraph) (labels : List (List ℕ))
    (names : List (List ℕ × Oid)) (edges : List Edge) : Type 0 where
  pub ordered : IsOrderedGuide guide names edges
  pub table : IsNameTable names
  pub labelled : All (λ edge. edge.label.0 < length labels) edges
