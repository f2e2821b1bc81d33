use Rattle.bind_laws.proofs.SomeAnswerLaws.{has_some_answer}
use Rattle.bind_laws.proofs.laws.some_answer.Goals as goal

pub returns : goal.returns
returns c = has_some_answer
