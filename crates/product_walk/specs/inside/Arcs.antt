-- The arcs of a graph, along its edges or against them, and the edges that show them.
use Rattle.std.specs.Prelude.{◌≡◌, ◌↔◌, ◌==◌, ◌&&◌, cond, Bool, ℕ, ◌+◌, List, [], ◌∷◌, length, filter, Contains}
use Rattle.std.specs.List.{list_any}
use Rattle.lore_base.specs.Walks.{edge_of}
use Rattle.product_walk.specs.Types.{Oid, Label, Edge}

abbrev pub along : List Edge → Oid → Label → Oid → Type 0
along edges x label y = Contains edges (edge_of x label y)

abbrev pub against : List Edge → Oid → Label → Oid → Type 0
against edges x label y = Contains edges (edge_of y label x)

-- the word is walked from x to y by a relation of arcs
abbrev pub WalkBy : (Oid → Label → Oid → Type 0) → Oid → List Label → Oid → Type 0
WalkBy goes x [] y = x ≡ y
WalkBy goes x (label ∷ word) y = (z : Oid) × goes x label z × WalkBy goes z word y

-- the edges show all arcs of an object: each leads by its label to its far end
abbrev pub AreArcs : (Oid → Label → Oid → Type 0) → (Edge → Oid) → Oid → List Edge → Type 0
AreArcs goes far oid edges = (label : Label) (y : Oid)
    → goes oid label y ↔ ((edge : Edge) × Contains edges edge × (edge.label ≡ label) × (far edge ≡ y))

-- the test for one edge
abbrev pub same_edge : Edge → Edge → Bool
same_edge a b = (a.parent.0 == b.parent.0) && ((a.label.0 == b.label.0) && (a.child.0 == b.child.0))

-- each edge of a list where it stands last
abbrev pub each_once : List Edge → List Edge
each_once [] = []
each_once (edge ∷ edges) = cond (list_any (same_edge edge) edges) (each_once edges) (edge ∷ each_once edges)

-- what it costs to read the edges that enter an object, each once
abbrev pub reads_entering : List Edge → Oid → ℕ
reads_entering edges oid = 1 + length (each_once (filter (λ edge. edge.child.0 == oid.0) edges))
