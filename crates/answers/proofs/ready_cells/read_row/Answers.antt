use Rattle.std.proofs.Common.{◌≡◌, ◌<◌, Some, All, List, length, subst, sym, ◌∙◌, arith}
use Rattle.std.specs.List.{AllZip}
use Rattle.std.proofs.lemmas.List.{take_all}
use Rattle.answers.specs.inside.Showing.{IsReadyObject, IsReadyWithin, Reads}
use Rattle.answers.specs.declared.ready_cells.ReadyCell.{ReadyCell}
use Rattle.answers.proofs.ReadLaws.{put_back, at_turn, turn_shown, turn_none}
use Rattle.answers.proofs.ready_cells.read_row.Goals as goal

pub read-requires : goal.read-requires
read-requires g c =
    at_turn c.args.row.now c.args.cells.now c.cells.cells c.cells.i c.index-cells-i.result c.cells-test.true c.cells.invariant.same (IsReadyWithin {A = g.row.A.Denot}) c.requires

pub returns-in_err-cell-clause-same : goal.returns-in_err-cell-clause-same
returns-in_err-cell-clause-same g c = put_back c.cells.cells c.cells.i c.index-cells-i.result c.read.new.cell c.read.ensures.same ∙ c.cells.invariant.same

pub returns-in_err-push-in-Some-clause-same : goal.returns-in_err-push-in-Some-clause-same
returns-in_err-push-in-Some-clause-same g c =
    put_back c.cells.cells c.cells.i c.index-cells-i.result c.read.new.cell c.read.ensures.same ∙ c.cells.invariant.same

pub returns-in-None-clause-same : goal.returns-in-None-clause-same
returns-in-None-clause-same g c = put_back c.cells.cells c.cells.i c.index-cells-i.result c.read.new.cell c.read.ensures.same ∙ c.cells.invariant.same

pub returns-in-None-clause-row : goal.returns-in-None-clause-row
returns-in-None-clause-row g c =
    turn_none c.args.row.now c.args.cells.now c.cells.cells c.cells.i c.index-cells-i.result c.cells-test.true c.cells.invariant.same
    c.in_ok-cell.field-0 c.in_ok-cell.ensures.cell c.in-None.is

pub returns-in-None-clause-quiet : goal.returns-in-None-clause-quiet
returns-in-None-clause-quiet g c objects =
    c.in_ok-cell.ensures.quiet (at_turn c.args.row.now c.args.cells.now c.cells.cells c.cells.i c.index-cells-i.result c.cells-test.true c.cells.invariant.same
    (IsReadyObject {A = g.row.A.Denot}) objects) ∙ c.cells.invariant.quiet objects

pub cells-preserved : goal.cells-preserved
cells-preserved g c = record {
  same = put_back c.cells.cells c.cells.i c.index-cells-i.result c.read.new.cell c.read.ensures.same ∙ c.cells.invariant.same;
  shown = turn_shown c.args.row.now c.args.cells.now c.cells.cells c.cells.i c.index-cells-i.result c.cells-test.true c.cells.invariant.same
      c.in_ok-cell.field-0 c.in-Some.cell c.cells.shown c.push.new.self c.cells.invariant.shown c.in_ok-cell.ensures.cell c.in-Some.is
      c.in_ok-push-in-Some.ensures.ok;
  quiet = λ objects.
      c.in_ok-cell.ensures.quiet (at_turn c.args.row.now c.args.cells.now c.cells.cells c.cells.i c.index-cells-i.result c.cells-test.true c.cells.invariant.same
      (IsReadyObject {A = g.row.A.Denot}) objects) ∙ c.cells.invariant.quiet objects;
}

pub returns-clause-row : goal.returns-clause-row
returns-clause-row g c =
    subst (λ (cells : List (ReadyCell g.row.A.Denot)). AllZip (λ cell out. Reads c.args.row.now cell (Some out)) cells c.cells.shown)
    (take_all c.cells.i c.args.cells.now c.cells-test.false) c.cells.invariant.shown
