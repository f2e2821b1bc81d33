use Rattle.std.proofs.Common.{sym, ◌∙◌}
use Rattle.edge_layers.proofs.LayerLaws.{number_of}
use Rattle.edge_layers.proofs.FoundLaws.{found-none}
use Rattle.edge_layers.proofs.FoundLaws.{sifted-found}
use Rattle.edge_layers.proofs.edge_sets.sifted_set.Goals as goal

pub returns-then-is_empty : goal.returns-then-is_empty
returns-then-is_empty c = found-none c.args.records.now c.args.edges.now c.in_ok-sorted.sorted c.new.result
    (number_of _ 0 (sym c.is_empty.ensures ∙ c.if-is_empty.true)) c.new.ensures c.in_ok-sorted.ensures

pub sift-requires-clause-order : goal.sift-requires-clause-order
sift-requires-clause-order c = rw c.as_slice.ensures c.in_ok-sorted.ensures.ascend

pub returns : goal.returns
returns c = sifted-found c.args.records.now c.args.edges.now c.in_ok-sorted.sorted c.in_ok-sifted.sifted.there c.in_ok-sifted.sifted.absent
    c.in_ok-sorted.ensures (rw c.as_slice.ensures at c.in_ok-sifted.ensures)
