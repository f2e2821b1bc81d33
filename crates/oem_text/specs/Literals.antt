-- What a literal makes: objects, and edges between them. Its objects have places first, in the order in which they
-- begin in the text, so that a local can lead to an object that begins later or to one that encloses it.
use Rattle.std.specs.Prelude.{◌≡◌, ℕ, ◌+◌, ◌<◌, List, [], ◌∷◌, ◌++◌, length, map, Option, Some, Contains, slice_get}
use Rattle.std.specs.Prelude.{Bool, false, if◌then◌else◌, ◌==◌, None}
use Rattle.oem_text.specs.Types.{Oid, Edge, Value, Complex}
use Rattle.lore_base.specs.Walks.{oid_of, edge_of}
use Rattle.lorel_trees.specs.Trees.{LiteralTree, local, atom, node, MemberTrees, none, more}
use Rattle.oem_labels.specs.Labels.{label_in}

-- an object of a literal: the local that it is marked with, if any, and its value
pub record Body : Type 0 where
  pub mark : Option ℕ
  pub value : Value

-- what an edge of a literal leads to: the object that stands there in the text, or the one that a local marks
pub data Target : Type 0 where
  placed : (place : ℕ) → Target
  called : (number : ℕ) → Target

-- an edge of a literal: the place of its parent, its label's text, and what it leads to
pub record Arc : Type 0 where
  pub parent : ℕ
  pub label : List ℕ
  pub target : Target

-- the objects of a literal, in the order in which they begin
abbrev mutual
  pub bodies : LiteralTree → List Body
  bodies (local number) = []
  bodies (atom mark value) = record { mark = mark; value = value } ∷ []
  bodies (node mark members) = record { mark = mark; value = Complex } ∷ member_bodies members

  pub member_bodies : MemberTrees → List Body
  member_bodies none = []
  member_bodies (more label literal others) = bodies literal ++ member_bodies others

-- what leads to a literal that begins at this place
abbrev pub target : ℕ → LiteralTree → Target
target place (local number) = called number
target place (atom mark value) = placed place
target place (node mark members) = placed place

-- the edges of a literal that begins at this place, in text order
abbrev mutual
  pub arcs : ℕ → LiteralTree → List Arc
  arcs place (local number) = []
  arcs place (atom mark value) = []
  arcs place (node mark members) = member_arcs place (place + 1) members

  pub member_arcs : ℕ → ℕ → MemberTrees → List Arc
  member_arcs parent place none = []
  member_arcs parent place (more label literal others) =
      record { parent = parent; label = label; target = target place literal }
      ∷ (arcs place literal ++ member_arcs parent (place + length (bodies literal)) others)

-- the literal's edges, where its first object has place 0
abbrev pub arcs_of : LiteralTree → List Arc
arcs_of literal = arcs 0 literal

-- the texts of their labels
abbrev pub labels_of : LiteralTree → List (List ℕ)
labels_of literal = map (λ arc. arc.label) (arcs_of literal)

-- the object at this place is marked with the local
pub record IsMarkedAt (places : List Body) (number place : ℕ) : Type 0 where
  pub body : Body
  pub at : slice_get places place ≡ Some body
  pub marked : body.mark ≡ Some number

-- two objects of the literal are marked with one local
pub record HasDouble (literal : LiteralTree) : Type 0 where
  pub number : ℕ
  pub first : ℕ
  pub second : ℕ
  pub apart : first < second
  pub one : IsMarkedAt (bodies literal) number first
  pub other : IsMarkedAt (bodies literal) number second

-- the literal uses the local: as a whole, or as a member
abbrev pub UsesLocal : LiteralTree → ℕ → Type 0
UsesLocal literal number = Contains (target 0 literal ∷ map (λ arc. arc.target) (arcs_of literal)) (called number)

-- the literal uses a local that marks no object
pub record HasUndefined (literal : LiteralTree) : Type 0 where
  pub number : ℕ
  pub used : UsesLocal literal number
  pub unmarked : (place : ℕ) → IsMarkedAt (bodies literal) number place → ⊥

-- whether the mark is this local
abbrev pub is_mark : ℕ → Option ℕ → Bool
is_mark number None = false
is_mark number (Some own) = own == number

-- the place of the first object that is marked with the local
abbrev pub marked_place : List Body → ℕ → ℕ
marked_place [] number = 0
marked_place (body ∷ others) number = if is_mark number body.mark then 0 else (1 + marked_place others number)

-- the place of what an edge leads to
abbrev pub target_place : List Body → Target → ℕ
target_place places (placed place) = place
target_place places (called number) = marked_place places number

-- objects with these values, numbered from `next` on
abbrev pub numbered : ℕ → List Value → List (Oid × Value)
numbered next [] = []
numbered next (value ∷ others) = (oid_of next, value) ∷ numbered (next + 1) others

-- the objects of a literal, where its first one has the number `next`
abbrev pub objects_of : ℕ → LiteralTree → List (Oid × Value)
objects_of next literal = numbered next (map (λ body. body.value) (bodies literal))

-- its edges then, by the labels of this table
abbrev pub edge_at : ℕ → List (List ℕ) → List Body → Arc → Edge
edge_at next table places arc =
    edge_of (oid_of (next + arc.parent)) (label_in table arc.label) (oid_of (next + target_place places arc.target))

abbrev pub edges_of : ℕ → List (List ℕ) → LiteralTree → List Edge
edges_of next table literal = map (edge_at next table (bodies literal)) (arcs_of literal)
