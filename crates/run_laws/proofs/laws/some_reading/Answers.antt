use Rattle.run_laws.proofs.ReadingLaws.{some_reading}
use Rattle.run_laws.proofs.laws.some_reading.Goals as goal

pub returns : goal.returns
returns c = some_reading
