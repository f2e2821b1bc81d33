use Rattle.reply_laws.proofs.OneStateLaws.{one_performance}
use Rattle.reply_laws.proofs.laws.one_state.Goals as goal

pub returns : goal.returns
returns c = one_performance
