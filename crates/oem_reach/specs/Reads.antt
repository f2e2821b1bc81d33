-- What a search for vanished objects reads.
use Rattle.std.specs.Prelude.{◌≡◌, ℕ, ◌+◌, List, sum_by}
use Rattle.lore_base.specs.TargetSets.{ListsInOrder}
use Rattle.lore_base.specs.Databases.{OemGraph}
use Rattle.read_costs.specs.ReadCosts.{out_reads, in_reads}
use Rattle.read_costs.specs.Concerned.{IsBelow}
use Rattle.oem_reach.specs.Types.{Oid, Edge, Changes}

-- the objects below cuts were read, each once by the edges that leave it and once by those that enter it
pub record ReadsBelow (before : OemGraph) (changes : Changes) (between : List Edge) (old now : ℕ)
    : Type 0 where
  pub below : List Oid
  pub exact : ListsInOrder (IsBelow before changes between) below
  pub counted : now ≡ old + sum_by (λ oid. out_reads between oid + in_reads between oid) below
