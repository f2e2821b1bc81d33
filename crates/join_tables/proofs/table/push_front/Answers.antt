use Rattle.std.proofs.Common.{ℤ, pos, ◌∙◌, sym}
use Rattle.lore_base.specs.Walks.{oid_of}
use Rattle.join_tables.specs.Types.{Oid}
use Rattle.join_tables.proofs.RunLaws.{run_none, run_more, run_ends, run_all}
use Rattle.join_tables.proofs.table.push_front.Goals as goal

pub rows-init : goal.rows-init
rows-init c = run_none c.args.number.now c.args.rows.now c.args.oids.now

pub rows-preserved : goal.rows-preserved
rows-preserved c =
    let first : ℤ × Oid = (pos 0, oid_of 0) in
    run_more c.args.number.now c.args.rows.now c.args.oids.now c.rows.oids c.push.new.self c.rows.row-index first c.rows-test.true
    (sym c.is_under.ensures ∙ c.if-not-is_under.false) c.in_ok-push.ensures.ok c.rows.invariant

pub returns-then-not-is_under : goal.returns-then-not-is_under
returns-then-not-is_under c = λ few.
    let first : ℤ × Oid = (pos 0, oid_of 0) in
    run_ends c.args.number.now c.args.rows.now c.args.oids.now c.rows.oids c.rows.row-index first c.rows-test.true
    (sym c.is_under.ensures ∙ c.if-not-is_under.true) c.requires c.rows.invariant

pub returns : goal.returns
returns c = λ few. run_all c.args.number.now c.args.rows.now c.args.oids.now c.rows.oids c.rows.row-index c.rows-test.false c.rows.invariant
