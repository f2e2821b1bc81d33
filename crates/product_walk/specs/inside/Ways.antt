-- How a path is walked from an object, and what the edges of the object show of it.
use Rattle.std.specs.Prelude.{◌≡◌, ◌↔◌, ℕ, ◌+◌, ◌*◌, ◌<◌, ◌≤◌, List, length, map, sum_by, All, AllPairs, Contains}
use Rattle.lore_base.specs.Lists.{ExtendsBy}
use Rattle.lore_base.specs.Paths.{PathTree, path_tree, trees_of, step, seq, none, Fits, Spells, Reaches}
use Rattle.lore_base.specs.declared.paths.Path.{Path}
use Rattle.path_expr.specs.Machines.{Recognises}
use Rattle.product_walk.specs.Types.{Oid, Label, Edge, Pattern, LEAVES}
use Rattle.product_walk.specs.ProductWalks.{IsWalked}
use Rattle.product_walk.specs.declared.routes.Way.{Way}
use Rattle.product_walk.specs.declared.routes.Way.TheVariants.{Stay, Child, InTurn, Search}
use Rattle.product_walk.specs.declared.ways_back.Turned.{Turned}
use Rattle.product_walk.specs.declared.ways_back.Turned.TheVariants.{Parent, InTurn as InTurnBack, Search as SearchBack}
use Rattle.product_walk.specs.inside.Products.{ReadsTurned}

-- two paths spell the same words
abbrev pub SpellAlike : PathTree → PathTree → Type 0
SpellAlike path other =
    (labels : List (List ℕ)) (word : List Label) → Spells labels path word ↔ Spells labels other word

-- a path is one label
abbrev pub IsLabel : Path → Type 0
IsLabel path = (pattern : Pattern) × (path_tree path ≡ step pattern)

-- a path is walked this way
abbrev pub IsWay : PathTree → Way → Type 0
IsWay path Stay = SpellAlike path (seq none)
IsWay path (Child pattern) = SpellAlike path (step pattern.now)
IsWay path (InTurn parts) =
    SpellAlike path (seq (trees_of (map path_tree parts.now)))
    × All IsLabel parts.now × (2 ≤ length parts.now) × (length parts.now ≤ LEAVES)
IsWay path (Search machine) = Recognises machine path

-- a path is walked this way against the edges
abbrev pub IsTurned : PathTree → Turned → Type 0
IsTurned path (Parent pattern) = SpellAlike path (step pattern.now)
IsTurned path (InTurnBack parts) =
    SpellAlike path (seq (trees_of (map path_tree parts.now)))
    × All IsLabel parts.now × (length parts.now ≤ LEAVES)
IsTurned path (SearchBack turned) =
    (labels : List (List ℕ)) (word : List Label) → ReadsTurned labels turned word ↔ Spells labels path word

-- an arc leads from one object to another by a label that fits
abbrev pub GoesBy : List (List ℕ) → (Oid → Label → Oid → Type 0) → Pattern → Oid → Oid → Type 0
GoesBy labels goes pattern from oid = (label : Label) × goes from label oid × Fits labels pattern label

-- one of the edges leads to the object by a label that fits
abbrev pub IsFittingEnd : (Edge → Oid) → List (List ℕ) → Pattern → List Edge → Oid → Type 0
IsFittingEnd far labels pattern edges oid =
    (edge : Edge) × Contains edges edge × Fits labels pattern edge.label × (far edge ≡ oid)

-- some of the objects leads to this one
abbrev pub FromSome : (Oid → Oid → Type 0) → List Oid → Oid → Type 0
FromSome Leads level oid = (from : Oid) × Contains level from × Leads from oid

-- the objects from which what is left of a path reaches what the whole path reaches from its start
pub record IsLevel (labels : List (List ℕ)) (edges : List Edge) (whole left : PathTree) (start : Oid) (level : List Oid) : Type 0 where
  pub ascending : AllPairs (λ a b. a.0 < b.0) level
  pub walked : (oid : Oid) → Contains level oid → IsWalked edges start oid
  pub exact : (oid : Oid) → Reaches labels edges whole start oid ↔ FromSome (Reaches labels edges left) level oid

-- the list grows by the objects that pass, in any order, perhaps some more than once
abbrev pub ExtendsByAll : (Oid → Type 0) → List Oid → List Oid → Type 0
ExtendsByAll Passes old new = ExtendsBy (λ more. (oid : Oid) → Contains more oid ↔ Passes oid) old new

-- a count grows by at most so many reads of each object that passes
abbrev pub TakesTimes : ℕ → (Oid → ℕ) → (Oid → Type 0) → ℕ → ℕ → Type 0
TakesTimes count reads Passes before after =
    (all : List Oid) → ((oid : Oid) → Passes oid → Contains all oid) → after ≤ before + count * sum_by reads all
