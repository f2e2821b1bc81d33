use Rattle.std.proofs.Common.{ltb, sym, ap, ◌∙◌, rules}
use Rattle.std.specs.Option.{option_copied}
use Rattle.std.proofs.lemmas.List.Sorted.{IsPartitionPoint-from_clause, IsPartitionedBy-ltb}
use Rattle.set_steps.proofs.RowLaws.{labels-rise, edge-past, edge-apart}
use Rattle.set_steps.proofs.rows.step_by.Goals as goal

pub returns-in-Some-clause-none : goal.returns-in-Some-clause-none
returns-in-Some-clause-none c =
    let row = c.args.row.now in
    let place = c.partition_point-place.result in
    let parts =
    IsPartitionPoint-from_clause (λ e. ltb e.0.0 c.args.label.0) row place c.partition_point-place.ensures.partitioned
    (IsPartitionedBy-ltb (λ e. e.0.0) row c.args.label.0 (labels-rise row c.requires)) (λ a r q k. search rules) in
    edge-apart row c.args.label place c.requires parts.0 parts.1 c.in-Some.step.now
    (sym c.step_at.ensures ∙ ap (λ o. option_copied o) c.in-Some.is) c.if-step-label.false

pub returns-in-None-clause-none : goal.returns-in-None-clause-none
returns-in-None-clause-none c =
    let row = c.args.row.now in
    let place = c.partition_point-place.result in
    let parts =
    IsPartitionPoint-from_clause (λ e. ltb e.0.0 c.args.label.0) row place c.partition_point-place.ensures.partitioned
    (IsPartitionedBy-ltb (λ e. e.0.0) row c.args.label.0 (labels-rise row c.requires)) (λ a r q k. search rules) in
    edge-past row c.args.label place c.requires parts.0 parts.1
    (sym c.step_at.ensures ∙ ap (λ o. option_copied o) c.in-None.is)
