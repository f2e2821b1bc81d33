use Rattle.lore_base.specs.Walks.{oid_of}
use Rattle.row_hints.proofs.FitLaws.{common_none, common_at, common_all}
use Rattle.row_hints.proofs.lists.those_among.Goals as goal

pub oids-init : goal.oids-init
oids-init c = common_none c.args.oids.now c.args.list.now c.new-kept.result c.new-kept.ensures

pub oids-preserved : goal.oids-preserved
oids-preserved c =
    common_at c.args.oids.now c.args.list.now c.oids.kept c.push_if.new.kept c.oids.oid-index (oid_of 0) c.is_among.result
    c.requires.oids c.oids-test.true c.in_ok-push_if.ensures c.is_among.ensures c.oids.invariant

pub returns : goal.returns
returns c = common_all c.args.oids.now c.args.list.now c.oids.kept c.oids.oid-index c.oids-test.false c.oids.invariant
