use Rattle.lore_store.proofs.NewLaws.{new_valid}
use Rattle.reply_laws.proofs.StandLaws.{performs_always}
use Rattle.reply_laws.proofs.laws.some_state.Goals as goal

pub returns-clause-begun : goal.returns-clause-begun
returns-clause-begun c = record { valid = new_valid; moments = tt }

pub returns-clause-always : goal.returns-clause-always
returns-clause-always c = performs_always
