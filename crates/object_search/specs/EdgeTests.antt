-- Tests of edges: whether two are one, and whether one stands in a list.
use Rattle.std.specs.Prelude.{Bool, ◌&&◌, nat_eq, List}
use Rattle.std.specs.List.{list_any}
use Rattle.object_search.specs.Types.{Edge}

-- the same parent, label and child
abbrev pub edge_eq : Edge → Edge → Bool
edge_eq a b = nat_eq a.parent.0 b.parent.0 && (nat_eq a.label.0 b.label.0 && nat_eq a.child.0 b.child.0)

-- the edge stands in the list
abbrev pub is_edge_in : List Edge → Edge → Bool
is_edge_in edges edge = list_any (edge_eq edge) edges
