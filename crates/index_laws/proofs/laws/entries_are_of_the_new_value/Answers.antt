use Rattle.index_laws.proofs.ChangedEntries.{entries_are_of_the_new_value}
use Rattle.index_laws.proofs.laws.entries_are_of_the_new_value.Goals as goal

pub returns : goal.returns
returns c = entries_are_of_the_new_value
