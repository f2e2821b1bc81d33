use Rattle.oem_changes.proofs.SomeAfterLaws.{some_after}
use Rattle.oem_changes.proofs.laws.changes_leave_some.Goals as goal

pub returns : goal.returns
returns c = λ before changes formed fits. some_after before changes formed.ordered fits
