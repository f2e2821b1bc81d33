use Rattle.bind_laws.proofs.FusedRowLaws.{fusing_keeps_rows}
use Rattle.bind_laws.proofs.laws.fusing_keeps_the_rows.Goals as goal

pub returns : goal.returns
returns c = fusing_keeps_rows
