use Rattle.dataguide.proofs.EntryLaws.{none-ascend}
use Rattle.dataguide.proofs.entries.Entries.new.Goals as goal

pub invariant_of-result : goal.invariant_of-result
invariant_of-result c = none-ascend c.new.result.items c.new.ensures.items
