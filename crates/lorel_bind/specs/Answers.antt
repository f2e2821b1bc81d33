-- The rows of a select: what its items show of the valuations of its ranges that hold.
use Rattle.std.specs.Prelude.{◌≡◌, ℕ, ◌↔◌, List, [], Option, Some, MatchOption, All, Contains, slice_get}
use Rattle.std.specs.List.{AllZip}
use Rattle.lorel_bind.specs.Types.{Oid, Label, Value, Cell}
use Rattle.lorel_bind.specs.Types.cells
use Rattle.lore_base.specs.Names.{object_of}
use Rattle.lore_base.specs.Databases.{Database}
use Rattle.lore_base.specs.Paths.{PathTree, seq, trees_of, Reaches}
use Rattle.lore_base.specs.LeastWords.{IsLeast, IsSpelledWalk}
use Rattle.lore_base.specs.Comparisons.{Compares}
use Rattle.lorel_trees.specs.Trees.{SelectTree}
use Rattle.lorel_ranges.specs.Places.{Root, named, quantified, Place, at_root, CellPlace, object, word, cells_of}
use Rattle.lorel_ranges.specs.Ranges.{PlacedRange, ArePlain, IsFixed}
use Rattle.lorel_bound.specs.Conditions.{CondOf}
use Rattle.lorel_ranges.specs.Conditions.{cond_of}
use Rattle.lorel_bound.specs.Holding.{Holds}
use Rattle.lorel_bound.specs.Answers.{AreAscendingRows}

-- a path of these parts reaches an object from a start
abbrev pub Leads : Database → List PathTree → Oid → Oid → Type 0
Leads db parts start oid = Reaches db.labels db.graph.edges (seq (trees_of parts)) start oid

-- each name's place has its object, and each range an object that its path reaches from the one at its start
pub record IsValuation (db : Database) (ranges : List PlacedRange) (at : Place → Oid) : Type 0 where
  pub named : (name : List ℕ) (oid : Oid) → object_of db.graph.names name ≡ Some oid
      → at (at_root (named name)) ≡ oid
  pub reached : All (λ range. Leads db range.parts (at range.start) (at range.place)) ranges

-- the object of a start: that of the quantifier, or of the valuation
abbrev pub IsObjectOf : Oid → List Oid → Root → Oid → Type 0
IsObjectOf valued objects (quantified depth) oid = slice_get objects depth ≡ Some oid
IsObjectOf valued objects root oid = valued ≡ oid

-- the object of a place that a path of the condition is fixed at
abbrev pub HasObject : (Place → Oid) → List Oid → Place → Oid → Type 0
HasObject at objects place oid = IsObjectOf (at place) objects place.root oid

-- a path of the condition reaches an object by the rest behind its fixed prefix
pub record IsReachedBy (db : Database) (ranges : List PlacedRange) (at : Place → Oid) (objects : List Oid) (path : Place)
    (oid : Oid) : Type 0 where
  pub fixed : Place
  pub rest : List PathTree
  pub is_fixed : IsFixed ranges path fixed rest
  pub start : Oid
  pub begins : HasObject at objects fixed start
  pub leads : Leads db rest start oid

-- an object has an atomic or complex value
abbrev pub HasValue : Database → Oid → Value → Type 0
HasValue db oid value = Contains db.graph.objects (oid, value)

-- the condition holds of a valuation; where there is none each holds
abbrev pub HoldsAt : Database → List PlacedRange → (Place → Oid) → Option (CondOf Place) → Type 0
HoldsAt db ranges at condition =
    MatchOption condition (Unit {0}) (λ cond. Holds (IsReachedBy db ranges at) (HasValue db) Compares [] cond)

-- the least word by which a range of the place is reached, from the object at its start
pub record IsWordAt (db : Database) (ranges : List PlacedRange) (at : Place → Oid) (place : Place) (labels : List Label) :
    Type 0 where
  pub range : PlacedRange
  pub there : Contains ranges range
  pub is : range.place ≡ place
  pub least : IsLeast
      (IsSpelledWalk db.labels db.graph.edges (seq (trees_of range.parts)) (at range.start) (at place)) labels

-- a cell shows the object of its place, or that word
abbrev pub ShowsCell : Database → List PlacedRange → (Place → Oid) → CellPlace → Cell → Type 0
ShowsCell db ranges at (object place) (cells.Object oid) = at place ≡ oid
ShowsCell db ranges at (word place) (cells.Path labels) = IsWordAt db ranges at place labels
ShowsCell db ranges at _ _ = ⊥

-- the row shows the cells of a valuation of these ranges that holds; paths of the condition are fixed by the plain ones
pub record IsRowOver (db : Database) (query : SelectTree) (plain ranges : List PlacedRange) (row : List Cell) : Type 0 where
  pub at : Place → Oid
  pub valuation : IsValuation db ranges at
  pub holds : HoldsAt db plain at (cond_of query)
  pub shown : AllZip (ShowsCell db ranges at) (cells_of query) row

-- a row of the select: it shows a valuation of the plain ranges that holds
abbrev pub IsRow : Database → SelectTree → List Cell → Type 0
IsRow db query row = (plain : List PlacedRange) × ArePlain query plain × IsRowOver db query plain plain row

-- the answer: all rows, each once, in this order
pub record IsAnswer (db : Database) (query : SelectTree) (rows : List (List Cell)) : Type 0 where
  pub ascending : AreAscendingRows rows
  pub exact : (row : List Cell) → Contains rows row ↔ IsRow db query row
