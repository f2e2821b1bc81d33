use Rattle.std.proofs.Common.{All, subst, sym}
use Rattle.lorel_bound.specs.SlotRows.{IsObjectCell}
use Rattle.answers.proofs.shown_rows.ShownRows.new.Goals as goal

pub invariant_of-result : goal.invariant_of-result
invariant_of-result g c = (
  c.in_ok-ready_cells.ensures.made,
  c.in_ok-ready_cells.ensures.within,
  λ objects. c.show_words.ensures (subst (All IsObjectCell) (sym c.as_slice.ensures) objects),
)

pub returns : goal.returns
returns g c = λ i. record {
  labels = c.args.labels.now;
  edges = g.A.Adjacent.edges c.args.graph.now;
  bound = c.args.bound.now;
  waiting = c.new.ensures.items i;
  found = c.new-2.ensures i;
}
