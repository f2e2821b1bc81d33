-- The order of label paths (Goldman and Widom 1997).
use Rattle.std.specs.Prelude.{◌≡◌, ◌⊎◌, ℕ, ◌<◌, List, length, AllPairs}
use Rattle.std.specs.List.{AllZip}
use Rattle.std.specs.Cmp.Lexicographic.{slice_cmp}
use Rattle.std.specs.declared.cmp.Ordering.{Ordering}
use Rattle.std.specs.declared.cmp.Ordering.TheVariants.{Less}
use Rattle.lore_lists.specs.Bytes.{bytes_cmp}
use Rattle.lore_base.specs.LeastWords.{label_cmp}
use Rattle.lore_base.specs.TargetSets.{LabelPath, LeadsTo}
use Rattle.lore_base.specs.Types.{Oid, Label, Edge}

-- of words that are as long, the one comes first that has the lower label where they first differ
abbrev pub word_cmp : List Label → List Label → Ordering
word_cmp = slice_cmp label_cmp

-- a path comes before another: its word is shorter, or as long; then its name comes first by bytes, or is the same;
-- then its word comes first
abbrev pub ComesBefore : LabelPath → LabelPath → Type 0
ComesBefore path other =
    (length path.word < length other.word)
    ⊎ ((length path.word ≡ length other.word)
    × ((bytes_cmp path.name other.name ≡ Less)
    ⊎ ((path.name ≡ other.name) × (word_cmp path.word other.word ≡ Less))))

-- of the paths that lead to the set this one comes first
pub record IsLeastPath (names : List (List ℕ × Oid)) (edges : List Edge) (path : LabelPath) (set : List Oid)
    : Type 0 where
  pub leads : LeadsTo names edges path set
  pub least : (other : LabelPath) → LeadsTo names edges other set → (path ≡ other) ⊎ ComesBefore path other

-- the sets stand in the order of their least paths
pub record AreInPathOrder (names : List (List ℕ × Oid)) (edges : List Edge) (sets : List (List Oid)) : Type 0 where
  pub paths : List LabelPath
  pub least : AllZip (IsLeastPath names edges) paths sets
  pub ascending : AllPairs ComesBefore paths
