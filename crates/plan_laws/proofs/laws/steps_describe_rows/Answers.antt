use Rattle.plan_laws.proofs.DescribeLaws.{steps_describe_rows}
use Rattle.plan_laws.proofs.laws.steps_describe_rows.Goals as goal

pub returns : goal.returns
returns c = steps_describe_rows
