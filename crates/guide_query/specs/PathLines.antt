-- The lines that show a label path (Goldman and Widom 1997, browsing and sample values): how many objects it leads to and
-- where it goes on from there, or the first of these objects.
use Rattle.std.specs.Prelude.{◌≡◌, ◌↔◌, ℕ, ◌<◌, List, [], ◌∷◌, ◌++◌, length, map, take, codes, decimal}
use Rattle.std.specs.Prelude.{Some, slice_get, AllPairs, Contains}
use Rattle.std.specs.List.{AllZip}
use Rattle.lore_base.specs.TargetSets.{ListsInOrder, HasTexts, LeavesTo, IsStep}
use Rattle.lore_base.specs.Walks.{Walk}
use Rattle.guide_query.specs.Types.{Oid, Label, Edge, Value}
use Rattle.guide_query.specs.GuideLines.{label_text, path_text, size_text}
use Rattle.lore_base.specs.Printed.{object_text}

-- the object is walked to from the named one along labels with these texts
abbrev pub IsWalkedTo : List (List ℕ × Oid) → List Edge → List (List ℕ) → List ℕ → List (List ℕ) → Oid → Type 0
IsWalkedTo names edges labels name texts oid =
    (start : Oid) × Contains names (name, start)
    × (word : List Label) × HasTexts labels texts word × Walk edges start word oid

-- the target set of a name and label texts; a path that leads nowhere has the set of none
abbrev pub IsSetOfPath : List (List ℕ × Oid) → List Edge → List (List ℕ) → List ℕ → List (List ℕ) → List Oid → Type 0
IsSetOfPath names edges labels name texts set = ListsInOrder (IsWalkedTo names edges labels name texts) set

-- Browsing.

-- the labels of the edges that leave a set, each once, by number
pub record AreLabelsOf (edges : List Edge) (set : List Oid) (leaving : List Label) : Type 0 where
  pub ascending : AllPairs (λ a b. a.0 < b.0) leaving
  pub exact : (label : Label) → Contains leaving label ↔ ((oid : Oid) × LeavesTo edges set label oid)

-- the line of a label: its text behind a dot, and how many objects it leads to from the set
pub record IsLabelLine (edges : List Edge) (labels : List (List ℕ)) (set : List Oid) (label : Label) (line : List ℕ)
    : Type 0 where
  pub text : List ℕ
  pub labelled : slice_get labels label.0 ≡ Some text
  pub next : List Oid
  pub step : IsStep edges set label next
  pub printed : line ≡ codes "." ++ label_text text ++ size_text (length next)

-- the path with the size of its target set, a line for each label that leaves the set, and the number of these labels
pub record AreBrowseLines (names : List (List ℕ × Oid)) (edges : List Edge) (labels : List (List ℕ))
    (name : List ℕ) (texts : List (List ℕ)) (lines : List (List ℕ)) : Type 0 where
  pub set : List Oid
  pub target : IsSetOfPath names edges labels name texts set
  pub leaving : List Label
  pub all : AreLabelsOf edges set leaving
  pub label_lines : List (List ℕ)
  pub each : AllZip (IsLabelLine edges labels set) leaving label_lines
  pub are : lines ≡ (codes "at " ++ path_text name texts ++ size_text (length set))
      ∷ label_lines ++ (codes "labels " ++ decimal (length leaving)) ∷ []

-- Samples.

-- the first objects of the path's target set, at most so many, and how many they are of how many
pub record AreSampleLines (names : List (List ℕ × Oid)) (objects : List (Oid × Value)) (edges : List Edge)
    (labels : List (List ℕ)) (name : List ℕ) (texts : List (List ℕ)) (count : ℕ) (lines : List (List ℕ))
    : Type 0 where
  pub set : List Oid
  pub target : IsSetOfPath names edges labels name texts set
  pub are : lines ≡ map (object_text objects) (take count set)
      ++ (codes "sample " ++ decimal (length (take count set)) ++ codes " of " ++ decimal (length set)) ∷ []
