-- What it costs to read the edges at an object: a step, and one for each edge.
use Rattle.std.specs.Prelude.{ℕ, ◌+◌, ◌==◌, List, length, filter}
use Rattle.lore_base.specs.Walks.{out_of}
use Rattle.read_costs.specs.Types.{Oid, Edge}

-- the edges that enter an object, in the order of the list
abbrev pub in_of : Oid → List Edge → List Edge
in_of oid edges = filter (λ edge. edge.child.0 == oid.0) edges

-- those that leave it
abbrev pub out_reads : List Edge → Oid → ℕ
out_reads edges oid = 1 + length (out_of oid edges)

-- those that enter it
abbrev pub in_reads : List Edge → Oid → ℕ
in_reads edges oid = 1 + length (in_of oid edges)

-- both, in one step
abbrev pub link_reads : List Edge → Oid → ℕ
link_reads edges oid = 1 + length (out_of oid edges) + length (in_of oid edges)
