use Rattle.edge_layers.proofs.edge_overlay.Overlay.new.Goals as goal

pub invariant_of-result : goal.invariant_of-result
invariant_of-result c = record {
  lists = c.requires.lists;
  lost_ascend = c.requires.lost;
  fresh_ascend = c.requires.fresh;
  lost_chained = rw c.as_slice.ensures at c.in_ok-lost_in.ensures;
  fresh_chained = rw c.as_slice-2.ensures at c.in_ok-fresh_in.ensures;
}
