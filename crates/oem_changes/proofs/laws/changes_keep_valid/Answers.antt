use Rattle.oem_changes.proofs.ValidLaws.{valid_after}
use Rattle.oem_changes.proofs.laws.changes_keep_valid.Goals as goal

pub returns : goal.returns
returns c = valid_after
