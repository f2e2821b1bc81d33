-- A partition of the objects of a graph, told by their places.
use Rattle.std.specs.Prelude.{◌≡◌, ◌↔◌, ℕ, List, Some, slice_get, slice_index, Contains}
use Rattle.one_index.specs.Types.{Oid, Edge}
use Rattle.one_index.specs.Blocks.{NamedGraph, BelongTogether}

abbrev pub AreSameEdges : List Edge → List Edge → Type 0
AreSameEdges links edges = (edge : Edge) → Contains links edge ↔ Contains edges edge

-- objects have one number exactly where they belong together
abbrev pub IsParted : NamedGraph → List ℕ → Type 0
IsParted graph numbers = (x y : ℕ) (a b : Oid)
    → slice_get graph.objects x ≡ Some a → slice_get graph.objects y ≡ Some b
    → (slice_index numbers x ≡ slice_index numbers y) ↔ BelongTogether graph a b
