use Rattle.reply_laws.proofs.OneReplyLaws.{one_execution}
use Rattle.reply_laws.proofs.laws.one_reply.Goals as goal

pub returns : goal.returns
returns c = one_execution
