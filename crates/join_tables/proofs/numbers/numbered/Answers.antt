use Rattle.lore_base.specs.Walks.{oid_of}
use Rattle.join_tables.proofs.NumberLaws.{numbered_none, numbered_more, numbered_all}
use Rattle.join_tables.proofs.numbers.numbered.Goals as goal

pub oids-init : goal.oids-init
oids-init g c = numbered_none (g.G.ValueOf.objects c.args.graph.now) c.in_ok-found.found

pub oids-preserved : goal.oids-preserved
oids-preserved g c =
    numbered_more (g.G.ValueOf.objects c.args.graph.now) c.args.oids.now c.oids.found c.push_numbered.new.found c.oids.oid-index (oid_of 0) c.oids-test.true
    c.in_ok-push_numbered.ensures c.oids.invariant

pub returns : goal.returns
returns g c = numbered_all (g.G.ValueOf.objects c.args.graph.now) c.args.oids.now c.oids.found c.oids.oid-index c.oids-test.false c.oids.invariant
