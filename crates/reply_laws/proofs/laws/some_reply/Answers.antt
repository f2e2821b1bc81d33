use Rattle.lore_store.proofs.NewLaws.{new_valid}
use Rattle.reply_laws.proofs.SomeReplyLaws.{executes_always}
use Rattle.reply_laws.proofs.laws.some_reply.Goals as goal

pub returns-clause-begun : goal.returns-clause-begun
returns-clause-begun c = new_valid

pub returns-clause-always : goal.returns-clause-always
returns-clause-always c = executes_always
