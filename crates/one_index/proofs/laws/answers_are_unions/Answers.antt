use Rattle.one_index.proofs.WalkLaws.{answers_are_unions}
use Rattle.one_index.proofs.laws.answers_are_unions.Goals as goal

pub returns : goal.returns
returns c = answers_are_unions
