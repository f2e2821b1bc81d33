use Rattle.run_laws.proofs.MeaningLaws.{one_reading}
use Rattle.run_laws.proofs.laws.one_reading.Goals as goal

pub returns : goal.returns
returns c = one_reading
