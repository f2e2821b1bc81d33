use Rattle.bind_laws.proofs.SlotRowLaws.{binding_keeps_rows}
use Rattle.bind_laws.proofs.laws.binding_keeps_the_rows.Goals as goal

pub returns : goal.returns
returns c = binding_keeps_rows
