-- Laws of the lines of a guide.
use Rattle.std.specs.Prelude.{◌≡◌, ℕ, ◌<◌, List, length, All}
use Rattle.lore_base.specs.Names.{IsNameTable}
use Rattle.guide_query.specs.Types.{Oid, Edge}
use Rattle.guide_query.specs.GuideLines.{AreGuideLines}

-- a database has one list of lines
abbrev pub HasOneListOfLines : Type 0
HasOneListOfLines =
    (names : List (List ℕ × Oid)) (edges : List Edge) (labels lines others : List (List ℕ))
    → AreGuideLines names edges labels lines → AreGuideLines names edges labels others → lines ≡ others

-- and it has one where its labels have texts
abbrev pub LinesExist : Type 0
LinesExist =
    (names : List (List ℕ × Oid)) (edges : List Edge) (labels : List (List ℕ))
    → IsNameTable names → All (λ edge. edge.label.0 < length labels) edges
    → (lines : List (List ℕ)) × AreGuideLines names edges labels lines
