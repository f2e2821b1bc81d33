-- Edge records in a slab: where each edge lies, and how the records are linked.
use Rattle.std.specs.Prelude.{◌≡◌, ◌≢◌, ◌+◌, ℕ, Option, Some, None}
use Rattle.slab.specs.Slab.{Slab, get, slab_len}
use Rattle.edge_lists.specs.Types.{Edge, Side, Out, In, Way, Before, After, EdgeRecord}

-- one of the four links of a record
abbrev pub link_of : Side → Way → EdgeRecord → Option ℕ
link_of Out Before r = r.out_before
link_of Out After r = r.out_after
link_of In Before r = r.in_before
link_of In After r = r.in_after

-- the record with that link set
abbrev pub with_link : Side → Way → Option ℕ → EdgeRecord → EdgeRecord
with_link Out Before link r = record r { out_before = link }
with_link Out After link r = record r { out_after = link }
with_link In Before link r = record r { in_before = link }
with_link In After link r = record r { in_after = link }

-- a link of what lies at a key
abbrev pub link_in : Side → Way → Option EdgeRecord → Option ℕ
link_in side way None = None
link_in side way (Some r) = link_of side way r

abbrev pub link_at : Side → Way → Slab EdgeRecord → ℕ → Option ℕ
link_at side way records key = link_in side way (get records key)

-- the edge of what lies at a key
abbrev pub edge_in : Option EdgeRecord → Option Edge
edge_in None = None
edge_in (Some r) = Some r.edge

-- a record with the edge lies at the key
abbrev pub LiesAt : Slab EdgeRecord → ℕ → Edge → Type 0
LiesAt records key edge = edge_in (get records key) ≡ Some edge

-- the edges lie where they lay, and there is as much room
pub record SameEdges (old new : Slab EdgeRecord) : Type 0 where
  pub edges : (key : ℕ) → edge_in (get new key) ≡ edge_in (get old key)
  pub len : slab_len new ≡ slab_len old
  pub capacity : new.capacity ≡ old.capacity

-- all links of one side are as they were
abbrev pub SameLinks : Side → Slab EdgeRecord → Slab EdgeRecord → Type 0
SameLinks side old new = (way : Way) (key : ℕ) → link_at side way new key ≡ link_at side way old key

-- one link is set, and all else is as it was
pub record IsRelinked (old : Slab EdgeRecord) (side : Side) (way : Way) (key : ℕ) (link : Option ℕ) (new : Slab EdgeRecord) : Type 0 where
  pub edges : SameEdges old new
  pub set : link_at side way new key ≡ link
  pub others : (j : ℕ) → j ≢ key → (w : Way) → link_at side w new j ≡ link_at side w old j
  pub other_way : (w : Way) → w ≢ way → (j : ℕ) → link_at side w new j ≡ link_at side w old j
  pub other_side : (s : Side) → s ≢ side → SameLinks s old new

-- a record that stands in no list
abbrev pub alone : Edge → EdgeRecord
alone edge = record { edge = edge; out_before = None; out_after = None; in_before = None; in_after = None }

-- some record has the edge
abbrev pub HasEdge : Slab EdgeRecord → Edge → Type 0
HasEdge records edge = (key : ℕ) × LiesAt records key edge

-- a record with the edge is put at a key that had none
pub record IsPut (old : Slab EdgeRecord) (key : ℕ) (edge : Edge) (new : Slab EdgeRecord) : Type 0 where
  pub vacant : get old key ≡ None
  pub lies : LiesAt new key edge
  pub others : (j : ℕ) → j ≢ key → edge_in (get new j) ≡ edge_in (get old j)
  pub len : slab_len new ≡ slab_len old + 1
  pub capacity : new.capacity ≡ old.capacity

-- the record at a key is taken away
pub record IsTaken (old : Slab EdgeRecord) (key : ℕ) (new : Slab EdgeRecord) : Type 0 where
  pub none : get new key ≡ None
  pub others : (j : ℕ) → j ≢ key → edge_in (get new j) ≡ edge_in (get old j)
  pub len : slab_len new + 1 ≡ slab_len old
  pub capacity : new.capacity ≡ old.capacity
