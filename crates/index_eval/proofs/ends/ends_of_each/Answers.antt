use Rattle.lore_base.specs.Walks.{oid_of}
use Rattle.index_eval.proofs.EndLaws.{ends_none, ends_more, ends_all}
use Rattle.index_eval.proofs.ends.ends_of_each.Goals as goal

pub found-init : goal.found-init
found-init g c =
    ends_none (g.G.ValueOf.objects c.args.readers.now.graph.now) (g.V.Values.entries c.args.readers.now.values.now) c.args.comparison.now c.new-ends.result

pub found-preserved : goal.found-preserved
found-preserved g c =
    ends_more (g.G.ValueOf.objects c.args.readers.now.graph.now) (g.V.Values.entries c.args.readers.now.values.now) c.args.comparison.now c.args.found.now
    c.found.ends c.append_ends_of.new.ends c.found.oid-index (oid_of 0) c.found-test.true c.in_ok-append_ends_of.ensures c.found.invariant

pub returns : goal.returns
returns g c =
    ends_all (g.G.ValueOf.objects c.args.readers.now.graph.now) (g.V.Values.entries c.args.readers.now.values.now) c.args.comparison.now c.args.found.now
    c.found.ends c.found.oid-index c.found-test.false c.found.invariant
