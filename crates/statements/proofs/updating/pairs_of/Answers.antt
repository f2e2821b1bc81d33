use Rattle.statements.proofs.ObjectRowLaws.{pairs_next}
use Rattle.statements.proofs.updating.pairs_of.Goals as goal

pub rows-preserved : goal.rows-preserved
rows-preserved c = λ rows are.
    pairs_next c.as_slice-row-items.result.now rows c.rows.row-index c.row-item.result c.rows.pairs c.push.new.self c.pair_of.result are
    c.rows-test.true c.row-item.is c.pair_of.ensures (c.rows.invariant rows are) c.in_ok-push.ensures.ok
