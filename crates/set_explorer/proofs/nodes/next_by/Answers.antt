use Rattle.std.proofs.Common.{ltb, sym, ◌∙◌, rules}
use Rattle.std.proofs.lemmas.List.Sorted.{IsPartitionPoint-from_clause, IsPartitionedBy-ltb}
use Rattle.set_steps.proofs.RowLaws.{labels-rise, edge-there, edge-past, edge-apart}
use Rattle.set_explorer.proofs.nodes.next_by.Goals as goal

pub returns-in-Some-clause-found : goal.returns-in-Some-clause-found
returns-in-Some-clause-found c =
    edge-there c.args.edges.now c.partition_point-place.result c.in-Some.edge c.args.label
    (sym c.edge_at.ensures ∙ c.in-Some.is) c.if-edge-label.true

pub returns-in_default-clause-none : goal.returns-in_default-clause-none
returns-in_default-clause-none c =
    let row = c.args.edges.now in
    let place = c.partition_point-place.result in
    let parts =
    IsPartitionPoint-from_clause (λ e. ltb e.0.0 c.args.label.0) row place c.partition_point-place.ensures.partitioned
    (IsPartitionedBy-ltb (λ e. e.0.0) row c.args.label.0 (labels-rise row c.requires)) (λ a r q k. search rules) in
    edge-apart row c.args.label place c.requires parts.0 parts.1 c.in-Some.edge (sym c.edge_at.ensures ∙ c.in-Some.is)
    c.if-edge-label.false

pub returns-in_default-2-clause-none : goal.returns-in_default-2-clause-none
returns-in_default-2-clause-none c =
    let row = c.args.edges.now in
    let place = c.partition_point-place.result in
    let parts =
    IsPartitionPoint-from_clause (λ e. ltb e.0.0 c.args.label.0) row place c.partition_point-place.ensures.partitioned
    (IsPartitionedBy-ltb (λ e. e.0.0) row c.args.label.0 (labels-rise row c.requires)) (λ a r q k. search rules) in
    edge-past row c.args.label place c.requires parts.0 parts.1 (sym c.edge_at.ensures ∙ c.in_default.is)
