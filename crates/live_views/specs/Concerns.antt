-- When a change concerns a select: it turns a name that one of its paths starts at, an edge whose label one
-- of their steps takes, or a value, where the select compares values.
use Rattle.std.specs.Prelude.{◌≡◌, ◌⊎◌, ℕ, List, MatchOption, Contains}
use Rattle.lore_base.specs.Databases.{IsLive}
use Rattle.lore_base.specs.ChangeSets.{IsBound}
use Rattle.lore_base.specs.Paths.{PathTree, PathTrees, step, any, seq, alt, opt, star, plus, none, more}
use Rattle.lore_base.specs.Paths.{trees_of, Fits}
use Rattle.lorel_trees.specs.Trees.{CondTree, CondTrees, SelectTree}
use Rattle.lorel_trees.specs.Trees as t
use Rattle.lorel_ranges.specs.Places.{named, Place}
use Rattle.lorel_ranges.specs.Texts.{text_places}
use Rattle.live_views.specs.Types.{Oid, Label, Edge, Delta}

-- a path of the text starts at the name. One that starts at a variable of that text doesn't
abbrev pub IsStart : SelectTree → List ℕ → Type 0
IsStart query name = (place : Place) × Contains (text_places query) place × (place.root ≡ named name)

-- some step of the path takes the label: its text is that of the step, or is matched by it. A `#` takes each
-- label
abbrev mutual
  pub HasStep : List (List ℕ) → PathTree → Label → Type 0
  HasStep labels (step pattern) label = Fits labels pattern label
  HasStep labels any label = Unit {0}
  HasStep labels (seq parts) label = HasStepIn labels parts label
  HasStep labels (alt parts) label = HasStepIn labels parts label
  HasStep labels (opt part) label = HasStep labels part label
  HasStep labels (star part) label = HasStep labels part label
  HasStep labels (plus part) label = HasStep labels part label

  pub HasStepIn : List (List ℕ) → PathTrees → Label → Type 0
  HasStepIn labels none label = ⊥
  HasStepIn labels (more part parts) label = HasStep labels part label ⊎ HasStepIn labels parts label

-- and so for some path of the text
abbrev pub IsStepped : List (List ℕ) → SelectTree → Label → Type 0
IsStepped labels query label =
    (place : Place) × Contains (text_places query) place × HasStepIn labels (trees_of place.parts) label

-- values are compared somewhere in the condition, by an operator. `==` compares none
abbrev mutual
  pub HasComparison : CondTree → Type 0
  HasComparison (t.or members) = SomeHasComparison members
  HasComparison (t.and members) = SomeHasComparison members
  HasComparison (t.not body) = HasComparison body
  HasComparison (t.exists variable path body) = HasComparison body
  HasComparison (t.for_all variable path body) = HasComparison body
  HasComparison (t.compare left op right) = Unit {0}
  HasComparison (t.same left right) = ⊥

  pub SomeHasComparison : CondTrees → Type 0
  SomeHasComparison t.no_cond = ⊥
  SomeHasComparison (t.cond first others) = HasComparison first ⊎ SomeHasComparison others

-- and so for a select, which may have no condition
abbrev pub ComparesValues : SelectTree → Type 0
ComparesValues query = MatchOption query.tail.cond ⊥ HasComparison

-- the edge goes or comes
abbrev pub IsTurned : Delta → Edge → Type 0
IsTurned delta edge = Contains delta.edges_gone edge ⊎ Contains delta.edges_come edge

-- a name goes or comes, perhaps for another object, that a path starts at
abbrev pub TurnsName : SelectTree → Delta → Type 0
TurnsName query delta =
    (name : List ℕ) × IsStart query name × (IsBound delta.names_gone name ⊎ IsBound delta.names_come name)

-- an edge goes or comes whose label a step takes
abbrev pub TurnsEdge : List (List ℕ) → SelectTree → Delta → Type 0
TurnsEdge labels query delta = (edge : Edge) × IsTurned delta edge × IsStepped labels query edge.label

-- an object that stays gets another value
abbrev pub ChangesValue : Delta → Type 0
ChangesValue delta = (oid : Oid) × IsLive delta.objects_gone oid × IsLive delta.objects_come oid

-- the change concerns the select. `labels` are the texts that there are once it is made
abbrev pub Concerns : List (List ℕ) → SelectTree → Delta → Type 0
Concerns labels query delta =
    TurnsName query delta ⊎ (TurnsEdge labels query delta ⊎ (ComparesValues query × ChangesValue delta))
