use Rattle.dataguide.proofs.AlikeLaws.{alike_guides}
use Rattle.dataguide.proofs.laws.guides_are_alike.Goals as goal

pub returns : goal.returns
returns c = alike_guides
