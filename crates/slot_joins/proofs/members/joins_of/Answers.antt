use Rattle.lorel_bound.specs.Bound.{bound_cond}
use Rattle.slot_joins.proofs.JoinLaws.{all_joined}
use Rattle.slot_joins.proofs.members.joins_of.Goals as goal

pub returns : goal.returns
returns g c =
    let indexed = c.args.indexed.now in
    all_joined indexed.labels.now (g.G.Adjacent.edges indexed.graph.now) (g.G.ValueOf.objects indexed.graph.now) (bound_cond c.args.cond.now)
    c.no_joins-joins.result.items c.push_joins.new.joins.items c.no_joins-joins.ensures c.in_ok-push_joins.ensures
