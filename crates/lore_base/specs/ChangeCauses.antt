-- Why changes of a graph are refused.
use Rattle.std.specs.Prelude.{◌≢◌, ℕ, ◌+◌, ◌<◌, List, length, Contains}
use Rattle.lore_base.specs.Types.{Oid, Edge, Value, Complex, Changes, Refusal}
use Rattle.lore_base.specs.Types.{NEXT_NUMBER, LABELS, NAMES, OBJECTS, EDGES}
use Rattle.lore_base.specs.Types.refusals
use Rattle.lore_base.specs.GuideLimits.{ExceedsNodes, ExceedsCells}
use Rattle.lore_base.specs.Databases.{OemGraph, Database}
use Rattle.lore_base.specs.ChangeSets.{HasChildren, IsGraphAfter}

-- an edge is added that leaves an atomic object
pub record AddsToAtom (graph : OemGraph) (changes : Changes) : Type 0 where
  pub edge : Edge
  pub value : Value
  pub added : Contains changes.added edge
  pub valued : Contains graph.objects (edge.parent, value)
  pub atomic : value ≢ Complex

-- an object that some edge leaves is given an atomic value
pub record HidesChildren (graph : OemGraph) (changes : Changes) : Type 0 where
  pub oid : Oid
  pub value : Value
  pub valued : Contains changes.values (oid, value)
  pub atomic : value ≢ Complex
  pub parent : HasChildren graph.edges oid

-- the graph after the changes has more than so many of what is counted
abbrev pub Outgrows : OemGraph → Changes → (OemGraph → ℕ) → ℕ → Type 0
Outgrows graph changes count limit =
    (after : OemGraph) × IsGraphAfter graph changes after × (limit < count after)

-- the cause of each refusal of changes of a graph, whose labels have these texts
abbrev pub ChangeCause : List (List ℕ) → OemGraph → Changes → Refusal → Type 0
ChangeCause labels graph changes refusals.AtomicParent = AddsToAtom graph changes
ChangeCause labels graph changes refusals.HasChildren = HidesChildren graph changes
ChangeCause labels graph changes refusals.OidsSpent = NEXT_NUMBER < graph.next + length changes.made
ChangeCause labels graph changes refusals.TooManyLabels = LABELS < length labels + length changes.labels
ChangeCause labels graph changes refusals.TooManyNames = Outgrows graph changes (λ after. length after.names) NAMES
ChangeCause labels graph changes refusals.TooManyObjects =
    Outgrows graph changes (λ after. length after.objects) OBJECTS
ChangeCause labels graph changes refusals.TooManyEdges = Outgrows graph changes (λ after. length after.edges) EDGES
ChangeCause labels graph changes _ = ⊥

-- in the graph after the changes, of the sets that label paths lead to, in the order of these, the first that doesn't fit
-- is one more than the limit
abbrev pub LeadsToMore : OemGraph → Changes → ℕ → Type 0
LeadsToMore graph changes limit =
    (after : OemGraph) × IsGraphAfter graph changes after × ExceedsNodes limit after.names after.edges

-- here with the first that doesn't fit there are too many members, and no more sets than the limit
abbrev pub LeadsToLarger : OemGraph → Changes → ℕ → Type 0
LeadsToLarger graph changes limit =
    (after : OemGraph) × IsGraphAfter graph changes after × ExceedsCells limit after.names after.edges

-- the cause of each refusal of changes of a database
abbrev pub DatabaseCause : Database → Changes → Refusal → Type 0
DatabaseCause db changes refusals.GuideNodes = LeadsToMore db.graph changes db.nodes
DatabaseCause db changes refusals.GuideCells = LeadsToLarger db.graph changes db.nodes
DatabaseCause db changes refusal = ChangeCause db.labels db.graph changes refusal
