-- The lists of edge records: what follows a place in one, and what becomes of the links where a record is joined to it
-- or parted from it.
use Rattle.std.specs.Prelude.{◌≡◌, ◌≢◌, ℕ, Option, Some, None, List, [], ◌∷◌, map, Contains}
use Rattle.slab.specs.Slab.{Slab}
use Rattle.edge_lists.specs.Types.{Oid, Edge, Side, Out, In, Before, After, EdgeRecord, ObjectRecord}
use Rattle.near_links.specs.Links.{IsNearest, AreLinked, AreJoined, AreParted}
use Rattle.edge_lists.specs.Edges.{owner_of, Precedes}
use Rattle.edge_lists.specs.Records.{link_at, LiesAt, SameEdges, SameLinks, IsPut, IsTaken}
use Rattle.edge_lists.specs.Objects.{head_of, object_of, AreAscendingObjects}

-- what follows a place in an object's list: the head where there is no place
abbrev pub next_of : Side → List ObjectRecord → Slab EdgeRecord → Oid → Option ℕ → Option ℕ
next_of side objects records owner None = head_of side objects owner
next_of side objects records owner (Some place) = link_at side After records place

-- the links of the other lists are as they were
abbrev pub SameOthers : Side → List ObjectRecord → Slab EdgeRecord → List ObjectRecord → Slab EdgeRecord → Type 0
SameOthers side old_objects old new_objects new =
    (s : Side) → s ≢ side → SameLinks s old new × ((x : Oid) → head_of s new_objects x ≡ head_of s old_objects x)

-- what follows the place is set, and all else is as it was
pub record IsLed (side : Side) (owner : Oid) (place link : Option ℕ) (old_objects : List ObjectRecord) (old : Slab EdgeRecord)
    (new_objects : List ObjectRecord) (new : Slab EdgeRecord) : Type 0 where
  pub edges : SameEdges old new
  pub objects : map object_of new_objects ≡ map object_of old_objects
  pub ascend : AreAscendingObjects new_objects
  pub placed : (p : ℕ) → place ≡ Some p → link_at side After new p ≡ link
  pub after : (j : ℕ) → place ≢ Some j → link_at side After new j ≡ link_at side After old j
  pub before : (j : ℕ) → link_at side Before new j ≡ link_at side Before old j
  pub head : place ≡ None → head_of side new_objects owner ≡ link
  pub kept_head : (p : ℕ) → place ≡ Some p → head_of side new_objects owner ≡ head_of side old_objects owner
  pub heads : (x : Oid) → x ≢ owner → head_of side new_objects x ≡ head_of side old_objects x
  pub others : SameOthers side old_objects old new_objects new

-- what comes before the one that follows is set, where there is one
pub record IsLedBack (side : Side) (next link : Option ℕ) (old new : Slab EdgeRecord) : Type 0 where
  pub edges : SameEdges old new
  pub set : (n : ℕ) → next ≡ Some n → link_at side Before new n ≡ link
  pub before : (j : ℕ) → next ≢ Some j → link_at side Before new j ≡ link_at side Before old j
  pub after : (j : ℕ) → link_at side After new j ≡ link_at side After old j
  pub others : (s : Side) → s ≢ side → SameLinks s old new

-- a record is put behind the place
pub record IsJoined (side : Side) (key : ℕ) (owner : Oid) (place : Option ℕ) (old_objects : List ObjectRecord) (old : Slab EdgeRecord)
    (new_objects : List ObjectRecord) (new : Slab EdgeRecord) : Type 0 where
  pub edges : SameEdges old new
  pub objects : map object_of new_objects ≡ map object_of old_objects
  pub ascend : AreAscendingObjects new_objects
  pub joined : AreJoined key owner place (next_of side old_objects old owner place)
      (link_at side After old) (link_at side Before old) (head_of side old_objects)
      (link_at side After new) (link_at side Before new) (head_of side new_objects)
  pub others : SameOthers side old_objects old new_objects new

-- a record is taken from between its neighbours
pub record IsParted (side : Side) (key : ℕ) (owner : Oid) (old_objects : List ObjectRecord) (old : Slab EdgeRecord)
    (new_objects : List ObjectRecord) (new : Slab EdgeRecord) : Type 0 where
  pub edges : SameEdges old new
  pub objects : map object_of new_objects ≡ map object_of old_objects
  pub ascend : AreAscendingObjects new_objects
  pub parted : AreParted key owner (link_at side Before old key) (link_at side After old key)
      (link_at side After old) (link_at side Before old) (head_of side old_objects)
      (link_at side After new) (link_at side Before new) (head_of side new_objects)
  pub others : SameOthers side old_objects old new_objects new

-- a record with the edge lies at the key, which isn't among those that wait to be joined
abbrev pub StandsAt : Slab EdgeRecord → List ℕ → ℕ → Edge → Type 0
StandsAt records waiting key edge = LiesAt records key edge × (¬ Contains waiting key)

-- the records, but for those that wait, are linked in the lists of one side
abbrev pub AreChained : Side → List ObjectRecord → Slab EdgeRecord → List ℕ → Type 0
AreChained side objects records waiting = AreLinked (owner_of side) (Precedes side) (StandsAt records waiting)
    (link_at side After records) (link_at side Before records) (head_of side objects)

-- the place is that of an edge that stands before this one, or there is none
abbrev pub IsStart : Side → Slab EdgeRecord → List ℕ → Edge → Option ℕ → Type 0
IsStart side records waiting edge None = Unit {0}
IsStart side records waiting edge (Some key) = (before : Edge) × StandsAt records waiting key before × Precedes side before edge

-- the place is that of the last edge that stands before this one; there is none where none stands before it
abbrev pub IsPlace : Side → Slab EdgeRecord → List ℕ → Edge → Option ℕ → Type 0
IsPlace side records waiting edge place =
    IsNearest (StandsAt records waiting) (λ other. Precedes side other edge) (λ a b. Precedes side b a) place

-- what follows a place isn't before the edge, or nothing follows
abbrev pub IsPast : Side → Slab EdgeRecord → Edge → Option ℕ → Type 0
IsPast side records edge None = Unit {0}
IsPast side records edge (Some next) = (other : Edge) → LiesAt records next other → ¬ Precedes side other edge

-- those of the records that wait and come before the edge have edges of these
abbrev pub WaitAmong : Side → Slab EdgeRecord → List ℕ → Edge → List Edge → Type 0
WaitAmong side records waiting edge come =
    (key : ℕ) (other : Edge) → Contains waiting key → LiesAt records key other → Precedes side other edge → Contains come other

-- the edge is put into the out list of its parent, and waits to be put into the in list of its child
pub record IsPutOut (edge : Edge) (key : ℕ) (old_objects : List ObjectRecord) (old : Slab EdgeRecord)
    (new_objects : List ObjectRecord) (new : Slab EdgeRecord) : Type 0 where
  pub put : IsPut old key edge new
  pub objects : map object_of new_objects ≡ map object_of old_objects
  pub ascend : AreAscendingObjects new_objects
  pub out : AreChained Out new_objects new []
  pub entering : (waiting : List ℕ) → AreChained In old_objects old waiting → AreChained In new_objects new (key ∷ waiting)

-- a record that waited is put into the in list of its child
pub record IsPutIn (edge : Edge) (key : ℕ) (start : Option ℕ) (come : List Edge) (old_objects : List ObjectRecord) (old : Slab EdgeRecord)
    (new_objects : List ObjectRecord) (new : Slab EdgeRecord) : Type 0 where
  pub edges : SameEdges old new
  pub objects : map object_of new_objects ≡ map object_of old_objects
  pub ascend : AreAscendingObjects new_objects
  pub out : AreChained Out new_objects new []
  pub entering : (waiting : List ℕ) → (¬ Contains waiting key) → AreChained In old_objects old (key ∷ waiting)
      → WaitAmong In old (key ∷ waiting) edge come → IsStart In old (key ∷ waiting) edge start → AreChained In new_objects new waiting

-- the record at a key is taken from both of its lists
pub record IsTakenOut (key : ℕ) (old_objects : List ObjectRecord) (old : Slab EdgeRecord)
    (new_objects : List ObjectRecord) (new : Slab EdgeRecord) : Type 0 where
  pub taken : IsTaken old key new
  pub objects : map object_of new_objects ≡ map object_of old_objects
  pub ascend : AreAscendingObjects new_objects
  pub out : AreChained Out new_objects new []
  pub entering : AreChained In new_objects new []
