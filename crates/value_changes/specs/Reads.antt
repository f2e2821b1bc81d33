-- Which edges are read where entries change, and what it costs.
use Rattle.std.specs.Prelude.{◌≡◌, ◌≢◌, ◌⊎◌, ℕ, ◌+◌, List, sum_by, Contains}
use Rattle.value_changes.specs.Types.{Oid, Edge, Value, Complex}
use Rattle.lore_base.specs.Databases.{IsLive}
use Rattle.lore_base.specs.Deltas.{IsOnlyIn, ListsOnlyIn}
use Rattle.lore_base.specs.TargetSets.{ListsInOrder}
use Rattle.read_costs.specs.ReadCosts.{in_reads}

-- the edges that are read are the added ones and those of before, without some that are lost
pub record AreRead (edges before lost added : List Edge) : Type 0 where
  pub added_exact : ListsOnlyIn added edges before
  pub others_lost : (edge : Edge) → IsOnlyIn before edges edge → Contains lost edge

-- a lost or a fresh edge enters the object, or a value is given to it
abbrev pub IsChanged : List Edge → List Edge → List (Oid × Value) → Oid → Type 0
IsChanged lost fresh given oid =
    IsLive given oid ⊎ ((edge : Edge) × (Contains lost edge ⊎ Contains fresh edge) × (edge.child ≡ oid))

-- the object has an atomic value
abbrev pub HasAtom : List (Oid × Value) → Oid → Type 0
HasAtom objects oid = (value : Value) × Contains objects (oid, value) × (value ≢ Complex)

-- it has one before or then
abbrev pub IsValued : List (Oid × Value) → List (Oid × Value) → Oid → Type 0
IsValued objects objects_then oid = HasAtom objects oid ⊎ HasAtom objects_then oid

-- it was live before, and has one before or then: only then may an entry of it have been there or be there still
abbrev pub IsOldValued : List (Oid × Value) → List (Oid × Value) → Oid → Type 0
IsOldValued objects objects_then oid = IsLive objects oid × IsValued objects objects_then oid

-- the changed objects that were live and have an atomic value before or then were read, each once by the edges that
-- enter it
pub record ReadsChanged (edges lost fresh : List Edge) (given objects objects_then : List (Oid × Value)) (before now : ℕ)
    : Type 0 where
  pub oids : List Oid
  pub exact : ListsInOrder (λ oid. IsChanged lost fresh given oid × IsOldValued objects objects_then oid) oids
  pub counted : now ≡ before + sum_by (in_reads edges) oids
