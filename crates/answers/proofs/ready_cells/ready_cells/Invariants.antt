use Rattle.std.proofs.Common.{◌≡◌, All, take}
use Rattle.std.specs.List.{AllZip}
use Rattle.answers.specs.inside.Showing.{IsMadeReady, IsReadyWithin}
use Rattle.answers.proofs.ready_cells.ready_cells.Given as goal

abbrev pub invariant-cells : goal.invariant-cells
invariant-cells g l = record {
  made : AllZip (IsMadeReady l.labels (g.A.Adjacent.edges l.graph) l.bound.ranges) (take l.cell-index l.bound.cells) l.cells.items;
  within : All IsReadyWithin l.cells.items;
  all : l.cell-items ≡ l.bound.cells;
}
