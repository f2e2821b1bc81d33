use Rattle.std.proofs.Common.{List, ℕ, length, ap, ◌∙◌, subst}
use Rattle.block_rounds.specs.Partitions.{Rows, IsCoarse}
use Rattle.block_haste.proofs.HasteLaws.{IsRefining-same}
use Rattle.block_haste.proofs.refining.hasten.Goals as goal

pub returns : goal.returns
returns c =
    let numbers = c.in_ok-numbers.numbers.items in
    let graph = c.in_ok-graph.graph in
    IsRefining-same c.args.rows.now c.args.kinds.now c.as_slice.result.now numbers c.in_ok-next.next.numbers.items c.in_ok-next.next.heads.items
    c.as_slice.ensures.value (c.in_ok-numbers.ensures.every ∙ ap length c.in_ok-graph.ensures.rows)
    (subst (λ (k : List ℕ). IsCoarse c.args.rows.now k numbers) c.in_ok-graph.ensures.kinds
    (subst (λ (r : Rows). IsCoarse r graph.kinds.now numbers) c.in_ok-graph.ensures.rows c.in_ok-numbers.ensures.coarse))
    c.in_ok-next.ensures.same c.in_ok-next.ensures.numbered
