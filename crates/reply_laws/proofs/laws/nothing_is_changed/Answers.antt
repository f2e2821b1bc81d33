use Rattle.reply_laws.proofs.NothingLaws.{nothing_changed}
use Rattle.reply_laws.proofs.laws.nothing_is_changed.Goals as goal

pub returns : goal.returns
returns c = nothing_changed
