-- A law of what is read.
use Rattle.std.specs.Prelude.{ℕ, ◌*◌, List}
use Rattle.lore_base.specs.Databases.{OemGraph}
use Rattle.read_costs.specs.Spent.{IsSpent}
use Rattle.read_costs.specs.ReadCosts.{link_reads}
use Rattle.read_costs.specs.Concerned.{IsInDoubt}
use Rattle.oem_reach.specs.Types.{Oid, Edge, Changes}
use Rattle.oem_reach.specs.Reads.{ReadsBelow}

-- what is read is within twice the edges at each object that is below a cut or made
abbrev pub ReadsAreWithinTwice : Type 0
ReadsAreWithinTwice =
    (before : OemGraph) (changes : Changes) (between : List Edge) (old now : ℕ)
    → ReadsBelow before changes between old now
    → IsSpent (IsInDoubt before changes between) (λ (oid : Oid). 2 * link_reads between oid) old now
