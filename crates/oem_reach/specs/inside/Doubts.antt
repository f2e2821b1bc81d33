-- Objects that are in doubt, since they may vanish, and what holds some of them: a name, or an edge from an object
-- that isn't in doubt.
use Rattle.std.specs.Prelude.{◌≡◌, ◌==◌, ◌<◌, ◌⊎◌, ℕ, Bool, not, List, map, filter, AllPairs, Contains}
use Rattle.std.specs.List.{list_any}
use Rattle.lore_base.specs.Walks.{Walk}
use Rattle.lore_base.specs.ChangeSets.{IsRenamed, NamesThen}
use Rattle.object_search.specs.EdgeTests.{is_edge_in}
use Rattle.oem_reach.specs.Types.{Oid, Label, Edge, Changes}

-- the object is the child of a lost edge, or a name had it that is bound anew or taken away
abbrev pub IsParted : List (List ℕ × Oid) → List Edge → Changes → Oid → Type 0
IsParted names lost changes oid =
    ((edge : Edge) × Contains lost edge × (edge.child ≡ oid))
    ⊎ ((name : List ℕ) × Contains names (name, oid) × IsRenamed changes name)

-- those of the edges that aren't fresh
abbrev pub old_of : List Edge → List Edge → List Edge
old_of fresh edges = filter (λ edge. not (is_edge_in fresh edge)) edges

-- some name has the object then
abbrev pub IsNamedThen : List (List ℕ × Oid) → Changes → Oid → Type 0
IsNamedThen names changes oid = (name : List ℕ) × NamesThen names changes (name, oid)

-- the object stands in the list
abbrev pub is_listed : List Oid → Oid → Bool
is_listed oids oid = list_any (λ other. oid.0 == other.0) oids

-- one of these objects, of which some are named: it is, or one of these edges enters it from none of them
abbrev pub IsHeld : List Oid → List Oid → List Edge → Oid → Type 0
IsHeld oids named edges oid =
    Contains oids oid
    × (Contains named oid
    ⊎ ((edge : Edge) × Contains edges edge × (edge.child ≡ oid) × (¬ Contains oids edge.parent)))

-- the children of those edges that come from none of the objects
abbrev pub outer_children : List Oid → List Edge → List Oid
outer_children oids edges = map (λ edge. edge.child) (filter (λ edge. not (is_listed oids edge.parent)) edges)

-- those of the edges that come from one of the objects
abbrev pub inner_of : List Oid → List Edge → List Edge
inner_of oids edges = filter (λ edge. is_listed oids edge.parent) edges

-- some walk leads there from a held one, along edges that come from one of the objects
abbrev pub IsStaying : List Oid → List Oid → List Edge → Oid → Type 0
IsStaying oids named edges oid =
    (start : Oid) × (word : List Label)
    × IsHeld oids named edges start × Walk (inner_of oids edges) start word oid

-- the list has, in ascending order, those of the objects that don't pass
pub record AreLeft (oids : List Oid) (Passes : Oid → Type 0) (left : List Oid) : Type 0 where
  pub ascend : AllPairs (λ a b. a.0 < b.0) left
  pub only : (oid : Oid) → Contains left oid → Contains oids oid × (¬ Passes oid)
  pub each : (oid : Oid) → Contains oids oid → Contains left oid ⊎ Passes oid
