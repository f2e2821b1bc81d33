use Rattle.oem_changes.proofs.RootedLaws.{rooted_after}
use Rattle.oem_changes.proofs.laws.changes_keep_rooted.Goals as goal

pub returns : goal.returns
returns c = λ before changes after formed fits leaves. rooted_after before changes formed fits after leaves
