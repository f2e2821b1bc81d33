-- Runs that are found by a link to the newest one of a key: by its object, from which a chain leads back to the
-- first, or by an edge. A link is one past a place, and 0 where there is none.
use Rattle.std.specs.Prelude.{◌≡◌, ◌≢◌, ℕ, ◌-◌, ◌<◌, ◌≤◌, Bool, ◌&&◌, nat_eq, List, length, map, slice_get}
use Rattle.std.specs.Prelude.{slice_index, Option, None, Some, ◌^◌}
use Rattle.doem_history.specs.Types.{Oid, Edge, Run}

-- runs, and for how many more there is room
pub record LinkedRuns (F : Type 0) : Type 0 where
  pub runs : List (Run F)
  pub room : ℕ

abbrev pub same_oid : Oid → Oid → Bool
same_oid a b = nat_eq a.0 b.0

abbrev pub edge_eq : Edge → Edge → Bool
edge_eq a b = nat_eq a.parent.0 b.parent.0 && (nat_eq a.label.0 b.label.0 && nat_eq a.child.0 b.child.0)

-- the link leads to the last place below the bound at which the key stands
pub record IsLink {K : Type 0} (keys : List K) (key : K) (bound link : ℕ) : Type 0 where
  pub within : link ≤ bound
  pub here : 0 < link → slice_get keys (link - 1) ≡ Some key
  pub none : (place : ℕ) → link ≤ place → place < bound → slice_get keys place ≢ Some key

abbrev pub link_told : Option ℕ → ℕ
link_told None = 0
link_told (Some link) = link

-- for each key the link to its newest place
abbrev pub AreNewest : {K : Type 0} → List K → (K → Option ℕ) → Type 0
AreNewest {K} keys newest = (key : K) → IsLink keys key (length keys) (link_told (newest key))

-- for each object the link to its newest place, and for each place that to the one before it of the same
-- object
pub record AreChains (owners : List Oid) (newest : Oid → Option ℕ) (older : List ℕ) : Type 0 where
  pub long : length older ≡ length owners
  pub last : AreNewest owners newest
  pub back : (place : ℕ) (oid : Oid) → slice_get owners place ≡ Some oid
      → IsLink owners oid place (slice_index older place)

abbrev pub owners_of : {F : Type 0} → (F → Oid) → List (Run F) → List Oid
owners_of owner runs = map (λ run. owner run.fact) runs

abbrev pub all_facts : {F : Type 0} → List (Run F) → List F
all_facts runs = map (λ run. run.fact) runs

-- runs that are chained by the objects to which their facts belong
pub record AreLinked {F : Type 0} (owner : F → Oid) (runs : List (Run F)) (newest : Oid → Option ℕ)
    (older : List ℕ) : Type 0 where
  pub chains : AreChains (owners_of owner runs) newest older
  pub few : length runs < 2 ^ 31
