-- Which target sets a change touches, and what is read of the graph after it.
use Rattle.std.specs.Prelude.{◌≡◌, ◌≢◌, ◌↔◌, ◌⊎◌, ℕ, ◌+◌, ◌≤◌, List, [], length, map, sum_by, All, AllPairs}
use Rattle.std.specs.Prelude.{Contains}
use Rattle.std.specs.List.{AllZip}
use Rattle.lore_base.specs.Deltas.{ListsOnlyIn}
use Rattle.lore_base.specs.TargetSets.{ListsInOrder, IsLedTo}
use Rattle.set_explorer.specs.Types.{Oid, Edge}
use Rattle.set_steps.specs.SetSteps.{reads_of}

-- the edges of the one graph that the other lacks, and those of the other that the one lacks
pub record DifferBy (before after lost fresh : List Edge) : Type 0 where
  pub lost_are : ListsOnlyIn lost before after
  pub fresh_are : ListsOnlyIn fresh after before

-- the objects that edges leave
abbrev pub parents_of : List Edge → List Oid
parents_of edges = map (λ edge. edge.parent) edges

-- some object is in both
abbrev pub Meet : List Oid → List Oid → Type 0
Meet set other = (oid : Oid) × Contains set oid × Contains other oid

-- the change touches the set: no node had it, or it has a dirty member, one that edges left which are no more
abbrev pub IsTouched : List (List Oid) → List Oid → List Oid → Type 0
IsTouched kept dirty set = (¬ Contains kept set) ⊎ Meet set dirty

-- those of the sets that are touched, each once
pub record AreTouched (kept : List (List Oid)) (dirty : List Oid) (sets touched : List (List Oid))
    : Type 0 where
  pub apart : AllPairs (λ a b. a ≢ b) touched
  pub exact : (set : List Oid) → Contains touched set ↔ (Contains sets set × IsTouched kept dirty set)

-- the set has all members of another one, which no lost and no fresh edge leaves, and the others of its members are more
pub record IsExtended (dirty grown own more set : List Oid) : Type 0 where
  pub clean : ¬ Meet own dirty
  pub still : ¬ Meet own grown
  pub part : All (Contains set) own
  pub others : ListsInOrder (λ oid. Contains set oid × (¬ Contains own oid)) more

-- what is read of a set: all of it; or, of one that no node had, what it has beside a node's set that is part of it and that
-- no lost and no fresh edge leaves; or nothing, of one that a node had
abbrev pub IsRead : List (List Oid) → List Oid → List Oid → List Oid → List Oid → Type 0
IsRead kept dirty grown set read =
    (read ≡ set)
    ⊎ (((¬ Contains kept set) × ((own : List Oid) × Contains kept own × IsExtended dirty grown own read set))
    ⊎ (Contains kept set × (read ≡ [])))

-- the steps that were counted are those of reading once, of each touched one among the sets, all of it, what it was extended
-- by, or nothing where a node had it
pub record ReadsTouched (kept : List (List Oid)) (dirty grown : List Oid) (edges : List Edge)
    (sets : List (List Oid)) (before now : ℕ) : Type 0 where
  pub touched : List (List Oid)
  pub are : AreTouched kept dirty sets touched
  pub read : List (List Oid)
  pub each : AllZip (IsRead kept dirty grown) touched read
  pub counted : now ≡ before + sum_by (reads_of edges) read

-- the steps that were counted are those of reading once, of each of some touched sets that label paths lead to, at most as
-- many as the limit, all of it, what it was extended by, or nothing where a node had it
pub record ReadsSome (kept : List (List Oid)) (dirty grown : List Oid) (limit : ℕ) (names : List (List ℕ × Oid))
    (edges : List Edge) (before now : ℕ) : Type 0 where
  pub sets : List (List Oid)
  pub apart : AllPairs (λ a b. a ≢ b) sets
  pub led : All (IsLedTo names edges) sets
  pub few : length sets ≤ limit
  pub touched : All (IsTouched kept dirty) sets
  pub read : List (List Oid)
  pub each : AllZip (IsRead kept dirty grown) sets read
  pub counted : now ≡ before + sum_by (reads_of edges) read

-- no more steps than those of reading each touched set that label paths lead to, whatever list has these
abbrev pub ReadsWithin : List (List Oid) → List Oid → List (List ℕ × Oid) → List Edge → ℕ → ℕ → Type 0
ReadsWithin kept dirty names edges before now =
    (all : List (List Oid))
    → ((set : List Oid) → IsLedTo names edges set → IsTouched kept dirty set → Contains all set)
    → now ≤ before + sum_by (reads_of edges) all
