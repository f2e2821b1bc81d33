use Rattle.oem_changes.proofs.SameLaws.{IsGraphAfter-same}
use Rattle.oem_changes.proofs.DeterminedLaws.{one_after}
use Rattle.oem_changes.proofs.laws.changes_leave_one.Goals as goal

pub returns-clause-one : goal.returns-clause-one
returns-clause-one c = one_after

pub returns-clause-same : goal.returns-clause-same
returns-clause-same c =
    λ before first second after other same leaves others.
    one_after before second after other (IsGraphAfter-same first second same before after leaves) others
