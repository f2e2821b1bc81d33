-- What a change touches, as the program notes it once for all views.
use Rattle.std.specs.Prelude.{◌≡◌, ◌↔◌, ℕ, Bool, true, false, List, ◌++◌, Some, Contains, IsTrue, slice_get}
use Rattle.std.specs.Prelude.{slice_index_or}
use Rattle.lorel_ranges.specs.Views.{texts}
use Rattle.live_views.specs.Types.{Edge, Delta}
use Rattle.live_views.specs.Concerns.{IsTurned, ChangesValue}
use Rattle.live_views.specs.declared.labels.LabelTexts.{LabelTexts}
use Rattle.live_views.specs.declared.touched.Touched.{Touched}

-- the edges that go and those that come
abbrev pub turned : Delta → List Edge
turned delta = delta.edges_gone ++ delta.edges_come

-- the text is that of the label of one of the edges
abbrev pub IsTextAmong : List (List ℕ) → List Edge → List ℕ → Type 0
IsTextAmong labels edges text =
    (edge : Edge) × Contains edges edge × (slice_get labels edge.label.0 ≡ Some text)

-- the place is noted
abbrev pub IsNoted : List Bool → ℕ → Type 0
IsNoted noted place = slice_index_or noted place false ≡ true

-- the texts of the labels of these edges are found, and among them that of each label which is noted
pub record AreFound (labels : List (List ℕ)) (edges : List Edge) (met : List Bool) (found : List (List ℕ))
    : Type 0 where
  pub exact : (text : List ℕ) → Contains found text ↔ IsTextAmong labels edges text
  pub noted : (place : ℕ) (text : List ℕ) → IsNoted met place → slice_get labels place ≡ Some text
      → Contains found text

abbrev pub HasFound : List (List ℕ) → List Edge → LabelTexts → Type 0
HasFound labels edges all = AreFound labels edges all.noted.items (texts all.found.items)

-- what the change touches
pub record TellsTouched (labels : List (List ℕ)) (delta : Delta) (touched : Touched) : Type 0 where
  pub is : touched.delta.now ≡ delta
  pub texts : (text : List ℕ) → Contains (texts touched.texts.items) text
      ↔ IsTextAmong labels (turned delta) text
  pub edges : IsTrue touched.edges ↔ ((edge : Edge) × IsTurned delta edge)
  pub values : IsTrue touched.values ↔ ChangesValue delta
