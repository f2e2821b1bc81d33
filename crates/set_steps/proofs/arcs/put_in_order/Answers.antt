use Rattle.std.proofs.Common.{◌↔◌, List, Contains, subst}
use Rattle.index_traits.proofs.EnteringLaws.{same_pair}
use Rattle.set_steps.specs.Types.{Oid, Label}
use Rattle.set_steps.proofs.arcs.put_in_order.Goals as goal

pub returns-clause-ascend : goal.returns-clause-ascend
returns-clause-ascend c = c.in_ok-sorted.ensures.ascend

pub returns-clause-members : goal.returns-clause-members
returns-clause-members c =
    subst (λ (l : List (Label × Oid)). (arc : Label × Oid) → Contains c.in_ok-sorted.sorted arc ↔ Contains l arc)
    c.replace-read.ensures.value (c.in_ok-sorted.ensures.members same_pair)
