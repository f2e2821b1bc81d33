use Rattle.std.proofs.Common.{◌∙◌}
use Rattle.value_index.proofs.CountLaws.{same_length}
use Rattle.value_index.proofs.value_index.ValueIndexValues.probe_count.Goals as goal

pub returns : goal.returns
returns c oids lists = c.len.ensures ∙ same_length _ _ oids c.runs.ensures.found lists
