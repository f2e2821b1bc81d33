use Rattle.value_index.proofs.IndexLaws.{sorted_behind}
use Rattle.value_index.proofs.value_index.ValueIndexValues.probe.Goals as goal

pub returns-clause-objects : goal.returns-clause-objects
returns-clause-objects c =
    sorted_behind _ _ _ _ _ _ c.len-start.ensures c.in_ok-push_to.ensures.ok c.runs.ensures.found
    c.sort_from.ensures.before c.sort_from.ensures.moved c.sort_from.ensures.sorted
