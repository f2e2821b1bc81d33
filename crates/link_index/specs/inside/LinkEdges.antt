-- Edges as the index keeps them: child, label and parent.
use Rattle.std.specs.Prelude.{◌↔◌, List, map, Contains}
use Rattle.std.specs.Ordering.{nat_cmp, ordering_then}
use Rattle.std.specs.declared.cmp.Ordering.{Ordering}
use Rattle.link_index.specs.Types.{Edge}
use Rattle.link_index.specs.declared.link.Link.{Link}
use Rattle.lore_base.specs.Walks.{edge_of}
use Rattle.sorted_list.specs.SortedLists.{Ascends}

-- the edge that a link stands for
abbrev pub edge_at : Link → Edge
edge_at link = edge_of link.parent link.label link.child

-- the link that stands for an edge
abbrev pub link_at : Edge → Link
link_at edge = record { child = edge.child; label = edge.label; parent = edge.parent }

-- the edges of these links
abbrev pub edges_of : List Link → List Edge
edges_of links = map edge_at links

-- links in the order of child, label and parent
abbrev pub order : Link → Link → Ordering
order a b =
    ordering_then (nat_cmp a.child.0 b.child.0)
    (ordering_then (nat_cmp a.label.0 b.label.0) (nat_cmp a.parent.0 b.parent.0))

-- both lists ascend
pub record AreInOrder (gone come : List Link) : Type 0 where
  pub gone_ascend : Ascends order gone
  pub come_ascend : Ascends order come

-- the links of the edges, in ascending order
pub record AreSortedLinks (edges : List Edge) (links : List Link) : Type 0 where
  pub ascend : Ascends order links
  pub exact : (link : Link) → Contains links link ↔ Contains edges (edge_at link)
