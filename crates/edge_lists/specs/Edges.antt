-- Edges in the two orders of their lists.
use Rattle.std.specs.Prelude.{◌≡◌, List, AllPairs}
use Rattle.std.specs.Ordering.{nat_cmp, ordering_then}
use Rattle.std.specs.declared.cmp.Ordering.{Ordering}
use Rattle.std.specs.declared.cmp.Ordering.TheVariants.{Less}
use Rattle.edge_lists.specs.Types.{Oid, Edge, Side, Out, In}

-- the object in whose list an edge stands: its parent's out list, its child's in list
abbrev pub owner_of : Side → Edge → Oid
owner_of Out edge = edge.parent
owner_of In edge = edge.child

-- the object at the other end
abbrev pub other_end : Side → Edge → Oid
other_end Out edge = edge.child
other_end In edge = edge.parent

-- edges in the order of owner, label and other end
abbrev pub side_cmp : Side → Edge → Edge → Ordering
side_cmp side a b =
    ordering_then (nat_cmp (owner_of side a).0 (owner_of side b).0)
    (ordering_then (nat_cmp a.label.0 b.label.0) (nat_cmp (other_end side a).0 (other_end side b).0))

-- both stand in one list, the first before the second
abbrev pub Precedes : Side → Edge → Edge → Type 0
Precedes side a b = (owner_of side a ≡ owner_of side b) × (side_cmp side a b ≡ Less)

-- edges ascend in the order of the side
abbrev pub Ascend : Side → List Edge → Type 0
Ascend side edges = AllPairs (λ a b. side_cmp side a b ≡ Less) edges
