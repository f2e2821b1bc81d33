use Rattle.index_eval.proofs.EndLaws.{met_ends}
use Rattle.index_eval.proofs.ends.ends_met.Goals as goal

pub returns : goal.returns
returns g c =
    let readers = c.args.readers.now in
    met_ends readers.labels.now (g.G.Adjacent.edges readers.graph.now) c.args.row.now c.args.meeting.now c.in-Some.from c.new-ends.result c.reach.new.buf
    c.in-Some.ensures c.new-ends.ensures c.in_ok-reach.ensures.objects
