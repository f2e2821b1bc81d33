-- Arcs of the product of a graph with a machine, whose places are objects under states.
use Rattle.std.specs.Prelude.{◌≡◌, ◌↔◌, cond, ℕ, List, ◌++◌, Contains}
use Rattle.lore_base.specs.Walks.{edge_of}
use Rattle.path_expr.specs.Machines.{Machine, IsIn, Moves, StepsTo, reads_on}
use Rattle.product_walk.specs.ProductWalks.{reads_out}
use Rattle.least_words.specs.Types.{Oid, Label, Edge, States, Arc, Place}

-- an edge leads from one object to another, and its label from the state at the first to that at the second
abbrev pub LeadsBy : List (List ℕ) → Machine → List Edge → Oid × ℕ → Label → Oid × ℕ → Type 0
LeadsBy labels machine edges here label there =
    Contains edges (edge_of here.0 label there.0) × Moves labels machine here.1 label there.1

-- some state of the place leads there
abbrev pub LeadsFrom : (Oid × ℕ → Label → Oid × ℕ → Type 0) → Place → Label → Oid × ℕ → Type 0
LeadsFrom leads place label there =
    (state : ℕ) × IsIn place.states state × leads (place.oid, state) label there

-- some place of the list leads there
abbrev pub LeadsFromSome : (Oid × ℕ → Label → Oid × ℕ → Type 0) → List Place → Label → Oid × ℕ → Type 0
LeadsFromSome leads places label there =
    (place : Place) × Contains places place × LeadsFrom leads place label there

-- the arc leads there by the label
abbrev pub IsArcTo : Arc → Label → Oid × ℕ → Type 0
IsArcTo arc label there = (arc.label ≡ label) × (arc.oid ≡ there.0) × IsIn arc.states there.1

-- one of the arcs does
abbrev pub IsListed : List Arc → Label → Oid × ℕ → Type 0
IsListed arcs label there = (arc : Arc) × Contains arcs arc × IsArcTo arc label there

-- one of the edges has the label and leads to the object, and the label from some of the states to the state
-- there
abbrev pub IsNext : List (List ℕ) → Machine → States → List Edge → Label → Oid × ℕ → Type 0
IsNext labels machine states edges label there =
    (edge : Edge) × Contains edges edge × (edge.label ≡ label) × (edge.child ≡ there.0)
    × StepsTo labels machine states label there.1

-- the new list is the old one and behind it arcs that show all that passes
pub record AddsArcs (Passes : Label → Oid × ℕ → Type 0) (old new : List Arc) : Type 0 where
  pub more : List Arc
  pub is : new ≡ old ++ more
  pub exact : (label : Label) (there : Oid × ℕ) → IsListed more label there ↔ Passes label there

-- the arcs show where some place of the list leads
abbrev pub AreArcsFrom : (Oid × ℕ → Label → Oid × ℕ → Type 0) → List Place → List Arc → Type 0
AreArcsFrom leads places arcs =
    (label : Label) (there : Oid × ℕ) → IsListed arcs label there ↔ LeadsFromSome leads places label there

-- what it costs to list the arcs of a place
abbrev pub reads_at : List Edge → Place → ℕ
reads_at edges place = cond (reads_on place.states) (reads_out edges place.oid) 0
