-- The work of a change: what it costs to read the sets that it touches, and the objects that it concerns.
use Rattle.std.specs.Prelude.{◌≢◌, ℕ, ◌+◌, ◌*◌, ◌≤◌, List, sum_by, All, AllPairs}
use Rattle.lore_base.specs.Databases.{OemGraph}
use Rattle.read_costs.specs.Types.{Oid, Edge, Changes}
use Rattle.read_costs.specs.ReadCosts.{out_reads, link_reads}
use Rattle.read_costs.specs.Concerned.{IsConcerned, IsTouched}

-- the edges that leave the members of the sets, and those at the objects
abbrev pub work_of : List Edge → List (List Oid) → List Oid → ℕ
work_of edges sets oids = sum_by (λ set. sum_by (out_reads edges) set) sets + sum_by (link_reads edges) oids

-- what a count has risen by is within so many times the work of the change: of some touched sets and of some
-- objects concerned, each counted once
pub record IsWithinWork (times : ℕ) (before : OemGraph) (changes : Changes) (between : List Edge)
    (after : OemGraph) (old now : ℕ) : Type 0 where
  pub sets : List (List Oid)
  pub sets_apart : AllPairs (λ a b. a ≢ b) sets
  pub touched : All (IsTouched before changes after) sets
  pub oids : List Oid
  pub oids_apart : AllPairs (λ a b. a ≢ b) oids
  pub concerned : All (IsConcerned before changes between) oids
  pub within : now ≤ old + times * work_of between sets oids
