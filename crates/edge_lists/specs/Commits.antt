-- What becomes of the records where edges come and go.
use Rattle.std.specs.Prelude.{◌≡◌, ◌≢◌, ◌⊎◌, ◌↔◌, ◌+◌, ◌<◌, ℕ, List, [], length, map, slice_index_or, All, AllPairs, Contains}
use Rattle.slab.specs.Slab.{Slab, slab_len}
use Rattle.edge_lists.specs.Types.{Edge, Out, In, EdgeRecord, ObjectRecord}
use Rattle.edge_lists.specs.Records.{LiesAt, HasEdge, SameEdges}
use Rattle.edge_lists.specs.Objects.{object_of, AreAscendingObjects}
use Rattle.edge_lists.specs.Chains.{AreChained}

-- the edges are put into the out lists of their parents, at these keys, and wait for the in lists of their children
pub record ArePut (come : List Edge) (old_objects : List ObjectRecord) (old : Slab EdgeRecord)
    (new_objects : List ObjectRecord) (new : Slab EdgeRecord) (keys : List ℕ) : Type 0 where
  pub objects : map object_of new_objects ≡ map object_of old_objects
  pub ascend : AreAscendingObjects new_objects
  pub out : AreChained Out new_objects new []
  pub entering : AreChained In old_objects old [] → AreChained In new_objects new keys
  pub edges : (edge : Edge) → HasEdge new edge ↔ (HasEdge old edge ⊎ Contains come edge)
  pub kept : (k : ℕ) (edge : Edge) → LiesAt old k edge → LiesAt new k edge
  pub count : length keys ≡ length come
  pub lie : (k : ℕ) (d : Edge) → k < length keys → LiesAt new (slice_index_or keys k 0) (slice_index_or come k d)
  pub len : slab_len new ≡ slab_len old + length come
  pub capacity : new.capacity ≡ old.capacity

-- the records of the edges that were put are put into the in lists of their children too, but for those that wait
pub record AreEntered (old_objects : List ObjectRecord) (old : Slab EdgeRecord) (new_objects : List ObjectRecord) (new : Slab EdgeRecord)
    (waiting : List ℕ) : Type 0 where
  pub edges : SameEdges old new
  pub objects : map object_of new_objects ≡ map object_of old_objects
  pub ascend : AreAscendingObjects new_objects
  pub out : AreChained Out new_objects new []
  pub entering : AreChained In new_objects new waiting

-- the key that stands at a place
abbrev pub key_at : List ℕ → ℕ → ℕ
key_at keys place = slice_index_or keys place 0

-- the keys that stand at these places
abbrev pub keys_at : List ℕ → List ℕ → List ℕ
keys_at keys places = map (key_at keys) places

-- the places of a list, each once
pub record ArePlaces (count : ℕ) (places : List ℕ) : Type 0 where
  pub within : All (λ place. place < count) places
  pub once : AllPairs (λ a b. a ≢ b) places
  pub all : (place : ℕ) → place < count → Contains places place

-- the records of these edges are taken from their lists, where they are there; the others keep their keys
pub record AreTaken (gone : List Edge) (old_objects : List ObjectRecord) (old : Slab EdgeRecord)
    (new_objects : List ObjectRecord) (new : Slab EdgeRecord) : Type 0 where
  pub objects : map object_of new_objects ≡ map object_of old_objects
  pub ascend : AreAscendingObjects new_objects
  pub out : AreChained Out new_objects new []
  pub entering : AreChained In new_objects new []
  pub edges : (edge : Edge) → HasEdge new edge ↔ (HasEdge old edge × (¬ Contains gone edge))
  pub kept : (k : ℕ) (edge : Edge) → LiesAt old k edge → (¬ Contains gone edge) → LiesAt new k edge
  pub capacity : new.capacity ≡ old.capacity

-- the edges that come are there then, and those that go are not; what stays keeps its key
pub record AreChanged (come : List Edge) (gone : List Edge) (old_objects : List ObjectRecord) (old : Slab EdgeRecord)
    (new_objects : List ObjectRecord) (new : Slab EdgeRecord) : Type 0 where
  pub objects : map object_of new_objects ≡ map object_of old_objects
  pub ascend : AreAscendingObjects new_objects
  pub out : AreChained Out new_objects new []
  pub entering : AreChained In new_objects new []
  pub edges : (edge : Edge) → HasEdge new edge ↔ ((HasEdge old edge ⊎ Contains come edge) × (¬ Contains gone edge))
  pub kept : (k : ℕ) (edge : Edge) → LiesAt old k edge → (¬ Contains gone edge) → LiesAt new k edge
  pub capacity : new.capacity ≡ old.capacity
