-- The edges of the records as one list.
use Rattle.std.specs.Prelude.{Bool, ◌&&◌, nat_eq, List, filter}
use Rattle.std.specs.List.{list_any}
use Rattle.slab.specs.Slab.{Slab}
use Rattle.lore_base.specs.Walks.{edge_cmp}
use Rattle.near_links.specs.Slots.{listed}
use Rattle.edge_lists.specs.Types.{Edge, EdgeRecord}
use Rattle.edge_lists.specs.Records.{edge_in}

-- the edges in the order of parent, label and child
abbrev pub edges_of : Slab EdgeRecord → List Edge
edges_of records = listed edge_in edge_cmp records.slots

-- the same parent, label and child
abbrev pub edge_same : Edge → Edge → Bool
edge_same a b = nat_eq a.parent.0 b.parent.0 && (nat_eq a.label.0 b.label.0 && nat_eq a.child.0 b.child.0)

-- the edge is one of the records'
abbrev pub is_there : Slab EdgeRecord → Edge → Bool
is_there records edge = list_any (edge_same edge) (edges_of records)

-- those of these edges that are there, in the same order
abbrev pub those_there : Slab EdgeRecord → List Edge → List Edge
those_there records edges = filter (is_there records) edges
