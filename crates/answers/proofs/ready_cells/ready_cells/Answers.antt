use Rattle.std.proofs.Common.{◌≡◌, ◌≤◌, [], ◌∷◌, ◌++◌, List, All, length, get_or, take, subst, sym, ap, arith}
use Rattle.std.specs.List.{AllZip}
use Rattle.std.proofs.lemmas.List.{take_all}
use Rattle.std.proofs.lemmas.List.Elements.{All-nil, All-push}
use Rattle.answers.specs.Types.{CellOf}
use Rattle.answers.specs.inside.Showing.{IsMadeReady, IsReadyWithin}
use Rattle.answers.specs.declared.ready_cells.ReadyCell.{ReadyCell}
use Rattle.answers.proofs.BoundLaws.{cell_fits}
use Rattle.answers.proofs.ReadLaws.{next_made}
use Rattle.answers.proofs.ready_cells.ready_cells.Goals as goal

pub cells-init : goal.cells-init
cells-init g c = record {
  made = subst (AllZip (IsMadeReady {A = g.row.A.Denot} c.args.labels.now (g.A.Adjacent.edges c.args.graph.now) c.args.bound.now.ranges) [])
      (sym c.new-cells.ensures.items) tt;
  within = subst (All (IsReadyWithin {A = g.row.A.Denot})) (sym c.new-cells.ensures.items) (All-nil IsReadyWithin);
  all = c.as_slice-cell-items.ensures;
}

pub ready_cell-requires-clause-within : goal.ready_cell-requires-clause-within
ready_cell-requires-clause-within g c =
    cell_fits c.args.bound.now c.requires c.as_slice-cell-items.result.now c.cells.cell-index _ c.cells.invariant.all c.cells-test.true

pub cells-preserved : goal.cells-preserved
cells-preserved g c = record {
  made = next_made c.args.labels.now (g.A.Adjacent.edges c.args.graph.now) c.args.bound.now.ranges c.args.bound.now.cells c.as_slice-cell-items.result.now
      c.cells.cells.items c.push.new.self.items c.cells.cell-index _ c.in_ok-ready_cell.field-0 c.cells.invariant.all c.cells-test.true
      c.cells.invariant.made c.in_ok-ready_cell.ensures.made c.in_ok-push.ensures.items;
  within = subst (All (IsReadyWithin {A = g.row.A.Denot})) (sym c.in_ok-push.ensures.items)
      (All-push IsReadyWithin c.cells.cells.items c.in_ok-ready_cell.field-0 c.cells.invariant.within c.in_ok-ready_cell.ensures.within);
  all = c.cells.invariant.all;
}

pub returns-clause-made : goal.returns-clause-made
returns-clause-made g c =
    let ends : length c.args.bound.now.cells ≤ c.cells.cell-index =
    omega (arith, c.cells-test.false, ap (λ (cells : List CellOf). length cells) c.cells.invariant.all) in
    subst (λ (cells : List CellOf). AllZip (IsMadeReady {A = g.row.A.Denot} c.args.labels.now (g.A.Adjacent.edges c.args.graph.now) c.args.bound.now.ranges)
    cells c.cells.cells.items) (take_all c.cells.cell-index c.args.bound.now.cells ends) c.cells.invariant.made
