-- Laws of costs and of the work of a change.
use Rattle.std.specs.Prelude.{ℕ, ◌+◌, ◌*◌, ◌≤◌, List, sum_by, Contains}
use Rattle.lore_base.specs.Databases.{OemGraph}
use Rattle.read_costs.specs.Types.{Oid, Edge, Changes}
use Rattle.read_costs.specs.Spent.{IsSpent}
use Rattle.read_costs.specs.ReadCosts.{out_reads, in_reads, link_reads}
use Rattle.read_costs.specs.Concerned.{IsInDoubt, IsConcerned, IsTouched}
use Rattle.read_costs.specs.Work.{work_of, IsWithinWork}

-- what is spent on objects in doubt is within the cost of any list that holds all of them
abbrev pub SpentIsWithinAll : Type 0
SpentIsWithinAll =
    (before : OemGraph) (changes : Changes) (between : List Edge) (cost : Oid → ℕ) (old now : ℕ)
    → IsSpent (IsInDoubt before changes between) cost old now
    → (all : List Oid) → ((oid : Oid) → IsInDoubt before changes between oid → Contains all oid)
    → now ≤ old + sum_by cost all

-- and so is the work
abbrev pub WorkIsWithinAll : Type 0
WorkIsWithinAll =
    (times : ℕ) (before : OemGraph) (changes : Changes) (between : List Edge) (after : OemGraph) (old now : ℕ)
    → IsWithinWork times before changes between after old now
    → (sets : List (List Oid)) → ((set : List Oid) → IsTouched before changes after set → Contains sets set)
    → (oids : List Oid) → ((oid : Oid) → IsConcerned before changes between oid → Contains oids oid)
    → now ≤ old + times * work_of between sets oids

-- a search for what vanishes, a guide that is planned, and objects that are read once by the edges that enter them
-- and once by those that leave them, one after the other: together they are within four times the work
abbrev pub PartsAreWithinWork : Type 0
PartsAreWithinWork =
    (before : OemGraph) (changes : Changes) (between : List Edge) (after : OemGraph) (t0 t1 t2 t3 t4 : ℕ)
    → IsSpent (IsInDoubt before changes between) (λ oid. 2 * link_reads between oid) t0 t1
    → IsSpent (IsTouched before changes after) (λ set. sum_by (out_reads between) set) t1 t2
    → IsSpent (IsConcerned before changes between) (in_reads between) t2 t3
    → IsSpent (IsConcerned before changes between) (out_reads between) t3 t4
    → IsWithinWork 4 before changes between after t0 t4
