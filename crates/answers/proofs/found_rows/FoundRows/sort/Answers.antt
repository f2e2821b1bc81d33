use Rattle.std.proofs.Common.{◌-◌, ◌^◌, ◌∙◌, ap, min}
use Rattle.std.specs.List.{sum_by}
use Rattle.lore_base.proofs.SetLaws.{ascend-dedup, members-dedup}
use Rattle.lorel_bound.specs.Answers.{row_labels}
use Rattle.lorel_bound.specs.CellOrder.{rows_total, rows_ties}
use Rattle.answers.proofs.FoundLaws.{equal_rows}
use Rattle.answers.proofs.found_rows.FoundRows.sort.Goals as goal

pub invariant_of-self : goal.invariant_of-self
invariant_of-self c = (
  λ flag. ascend-dedup _ _ rows_total rows_ties _ _ c.sort_unstable.ensures.sorted c.dedup.ensures.filtered,
  c.labels_of_rows-self-inside.ensures ∙ ap (λ rows. min (2 ^ 64 - 1) (sum_by row_labels rows)) c.as_slice.ensures.value,
)

pub returns-clause-ascending : goal.returns-clause-ascending
returns-clause-ascending c = ascend-dedup _ _ rows_total rows_ties _ _ c.sort_unstable.ensures.sorted c.dedup.ensures.filtered

pub returns-clause-members : goal.returns-clause-members
returns-clause-members c row =
    rw (← c.self.view_is)
    (members-dedup _ _ rows_total rows_ties equal_rows _ _ _ c.sort_unstable.ensures.permutation c.dedup.ensures.filtered row)
