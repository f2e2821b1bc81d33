-- Laws of the lines that show a label path.
use Rattle.std.specs.Prelude.{◌≡◌, ℕ, ◌<◌, List, length, All}
use Rattle.lore_base.specs.Names.{IsNameTable}
use Rattle.guide_query.specs.Types.{Oid, Edge, Value}
use Rattle.guide_query.specs.PathLines.{AreBrowseLines, AreSampleLines}

-- browsing a path shows one list of lines
abbrev pub HasOneBrowsing : Type 0
HasOneBrowsing =
    (names : List (List ℕ × Oid)) (edges : List Edge) (labels : List (List ℕ)) (name : List ℕ) (texts : List (List ℕ))
    (lines others : List (List ℕ)) → AreBrowseLines names edges labels name texts lines
    → AreBrowseLines names edges labels name texts others → lines ≡ others

-- and it shows one where the labels of a database have texts
abbrev pub BrowsingExists : Type 0
BrowsingExists =
    (names : List (List ℕ × Oid)) (edges : List Edge) (labels : List (List ℕ)) (name : List ℕ) (texts : List (List ℕ))
    → IsNameTable names → All (λ edge. edge.label.0 < length labels) edges
    → (lines : List (List ℕ)) × AreBrowseLines names edges labels name texts lines

-- a sample of a path is one list of lines
abbrev pub HasOneSample : Type 0
HasOneSample =
    (names : List (List ℕ × Oid)) (objects : List (Oid × Value)) (edges : List Edge) (labels : List (List ℕ))
    (name : List ℕ) (texts : List (List ℕ)) (count : ℕ) (lines others : List (List ℕ))
    → AreSampleLines names objects edges labels name texts count lines
    → AreSampleLines names objects edges labels name texts count others → lines ≡ others

-- and there always is one
abbrev pub SampleExists : Type 0
SampleExists =
    (names : List (List ℕ × Oid)) (objects : List (Oid × Value)) (edges : List Edge) (labels : List (List ℕ))
    (name : List ℕ) (texts : List (List ℕ)) (count : ℕ) → IsNameTable names
    → (lines : List (List ℕ)) × AreSampleLines names objects edges labels name texts count lines
