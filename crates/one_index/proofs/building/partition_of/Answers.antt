use Rattle.std.proofs.Common.{ℕ, List, length, sym, subst, ap, ◌∙◌}
use Rattle.block_rounds.specs.Partitions.{AreWithin, AreBlocks, IsNumbered}
use Rattle.one_index.specs.Types.{Oid}
use Rattle.one_index.specs.Blocks.{named_graph_of}
use Rattle.one_index.specs.inside.Kinds.{AreKinds}
use Rattle.one_index.proofs.TransferLaws.{rows_every, rows_within, IsParted-told}
use Rattle.one_index.proofs.building.partition_of.Goals as goal

pub refined-requires-clause-within : goal.refined-requires-clause-within
refined-requires-clause-within g c =
    subst AreWithin (sym c.as_slice-2.ensures.value)
    (rows_within (g.K.Links.edges c.args.links.now) c.args.objects.now c.in_ok-rows.rows.items c.in_ok-rows.ensures.rows)

pub refined-requires-clause-every : goal.refined-requires-clause-every
refined-requires-clause-every g c =
    ap length c.as_slice-3.ensures.value ∙ c.in_ok-kinds.ensures.every
    ∙ sym (rows_every (g.K.Links.edges c.args.links.now) c.args.objects.now c.in_ok-rows.rows.items c.in_ok-rows.ensures.rows)
    ∙ ap length (sym c.as_slice-2.ensures.value)

pub returns-clause-parted : goal.returns-clause-parted
returns-clause-parted g c edges same sound =
    let graph = named_graph_of c.args.names.now c.args.objects.now edges in
    let rows = c.in_ok-rows.rows.items in
    let kinds = c.in_ok-kinds.kinds.items in
    let numbers = c.in_ok-partition.partition.numbers.items in
    let are_kinds = subst (λ (l : List Oid). AreKinds c.args.objects.now l kinds) c.as_slice.ensures c.in_ok-kinds.ensures in
    let are =
    subst (λ (k : List ℕ). AreBlocks rows k numbers) c.as_slice-3.ensures.value
    (subst (λ r. AreBlocks r c.as_slice-3.result.now numbers) c.as_slice-2.ensures.value c.in_ok-partition.ensures.blocks) in
    IsParted-told graph (g.K.Links.edges c.args.links.now) rows kinds c.in_ok-named.named sound same c.in_ok-rows.ensures.rows
    are_kinds c.in_ok-named.ensures numbers are

pub returns-clause-numbered : goal.returns-clause-numbered
returns-clause-numbered g c =
    subst (λ (n : ℕ). IsNumbered n c.in_ok-partition.partition.numbers.items c.in_ok-partition.partition.heads.items)
    (ap length c.as_slice-2.ensures.value
    ∙ rows_every (g.K.Links.edges c.args.links.now) c.args.objects.now c.in_ok-rows.rows.items c.in_ok-rows.ensures.rows)
    c.in_ok-partition.ensures.numbered

pub returns-clause-steps : goal.returns-clause-steps
returns-clause-steps g c = c.in_ok-rows.ensures.steps
