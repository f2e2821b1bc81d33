use Rattle.std.proofs.Common.{◌≡◌, ltb, false, drop, take, ap, ◌∙◌, rules}
use Rattle.std.proofs.lemmas.List.{take_rest}
use Rattle.std.proofs.lemmas.List.Sorted.{IsPartitionPoint-from_clause, IsPartitionedBy-ltb, IsNonDecreasingBy-drop}
use Rattle.list_laws.proofs.PartLaws.{All-drop_within}
use Rattle.edge_layers.proofs.RunLaws.{parents_rise, run_ends, run_is}
use Rattle.edge_layers.proofs.edge_runs.run_of.Goals as goal

pub returns : goal.returns
returns c =
    let edges = c.args.edges.now in
    let oid = c.args.oid in
    let start = c.partition_point-start.result in
    let len = c.run_length-len.result in
    let rise = parents_rise edges c.requires in
    let low = IsPartitionPoint-from_clause (λ e. ltb e.parent.0 oid.0) edges start c.partition_point-start.ensures.partitioned (IsPartitionedBy-ltb (λ e. e.parent.0) edges oid.0 rise) (λ a r q k. search rules) in
    let rest = take_rest edges start in
    let run = rw rest at c.run_length-len.ensures in
    let high = run_ends (drop start edges) oid len (IsNonDecreasingBy-drop (λ e. e.parent.0) start edges rise) (All-drop_within (λ e. ltb e.parent.0 oid.0 ≡ false) edges start low.1) run.run run.end in
    ap (take len) rest ∙ run_is edges oid start len low high
