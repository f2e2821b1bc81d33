-- What a change concerns: the objects below its cuts and near it, and the target sets that it touches. `between`
-- are the edges once the change is made, before anything vanishes.
use Rattle.std.specs.Prelude.{◌≡◌, ◌⊎◌, ℕ, List, Contains}
use Rattle.lore_base.specs.Walks.{Walk}
use Rattle.lore_base.specs.TargetSets.{IsLedTo}
use Rattle.lore_base.specs.Databases.{OemGraph, IsLive}
use Rattle.lore_base.specs.Deltas.{IsOnlyIn}
use Rattle.lore_base.specs.ChangeSets.{IsRenamed}
use Rattle.read_costs.specs.Types.{Oid, Label, Edge, Changes}

-- right below a cut: the child of an edge of before that is lost, or what a name had that is bound anew or taken
-- away
abbrev pub IsCut : OemGraph → Changes → List Edge → Oid → Type 0
IsCut before changes between oid =
    ((edge : Edge) × IsOnlyIn before.edges between edge × (edge.child ≡ oid))
    ⊎ ((name : List ℕ) × Contains before.names (name, oid) × IsRenamed changes name)

-- below a cut: walked to, before the change, from right below one
abbrev pub IsBelow : OemGraph → Changes → List Edge → Oid → Type 0
IsBelow before changes between oid =
    (start : Oid) × (word : List Label)
    × IsCut before changes between start × Walk before.edges start word oid

-- in doubt, since it may vanish: below a cut, or made
abbrev pub IsInDoubt : OemGraph → Changes → List Edge → Oid → Type 0
IsInDoubt before changes between oid = IsBelow before changes between oid ⊎ IsLive changes.made oid

-- the changes list the edge
abbrev pub IsListed : Changes → Edge → Type 0
IsListed changes edge = Contains changes.added edge ⊎ Contains changes.removed edge

-- a listed edge leaves the object
abbrev pub IsDirty : Changes → Oid → Type 0
IsDirty changes oid = (edge : Edge) × IsListed changes edge × (edge.parent ≡ oid)

-- near the change: a listed edge enters the object, or it is made or given a value
abbrev pub IsNear : Changes → Oid → Type 0
IsNear changes oid =
    ((edge : Edge) × IsListed changes edge × (edge.child ≡ oid))
    ⊎ (IsLive changes.made oid ⊎ IsLive changes.values oid)

-- below a cut of the change, or near it
abbrev pub IsConcerned : OemGraph → Changes → List Edge → Oid → Type 0
IsConcerned before changes between oid = IsBelow before changes between oid ⊎ IsNear changes oid

-- a target set of after that was none before, or that has a member which listed edges leave
abbrev pub IsTouched : OemGraph → Changes → OemGraph → List Oid → Type 0
IsTouched before changes after set =
    IsLedTo after.names after.edges set
    × ((¬ IsLedTo before.names before.edges set) ⊎ ((oid : Oid) × Contains set oid × IsDirty changes oid))
