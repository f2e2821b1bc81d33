use Rattle.bind_laws.proofs.AnswerLaws.{has_one_answer}
use Rattle.bind_laws.proofs.laws.one_answer.Goals as goal

pub returns : goal.returns
returns c = has_one_answer
