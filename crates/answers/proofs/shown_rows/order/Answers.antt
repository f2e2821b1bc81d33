use Rattle.std.proofs.lemmas.List.Sorted.{IsPermutation-refl, IsPermutation-trans}
use Rattle.answers.proofs.shown_rows.order.Goals as goal

pub cells-init : goal.cells-init
cells-init g c = IsPermutation-refl c.args.rows.now.items

pub cells-preserved : goal.cells-preserved
cells-preserved g c = IsPermutation-trans c.args.rows.now.items c.cells.rows.items c.order_by.new.rows.items c.cells.invariant c.order_by.ensures

pub returns-in_err-order_by : goal.returns-in_err-order_by
returns-in_err-order_by g c = IsPermutation-trans c.args.rows.now.items c.cells.rows.items c.order_by.new.rows.items c.cells.invariant c.order_by.ensures
