use Rattle.oem_changes.proofs.GrowthLaws.{grown_graph}
use Rattle.oem_changes.proofs.laws.changes_grow.Goals as goal

pub returns : goal.returns
returns c = grown_graph
