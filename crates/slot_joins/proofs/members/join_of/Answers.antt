use Rattle.lorel_bound.specs.Bound.{bound_path}
use Rattle.slot_joins.proofs.JoinLaws.{found_left, found_right}
use Rattle.slot_joins.proofs.members.join_of.Goals as goal

pub returns-then-is_before : goal.returns-then-is_before
returns-then-is_before g c =
    let indexed = c.args.indexed.now in
    found_left indexed.labels.now (g.G.Adjacent.edges indexed.graph.now) (g.G.ValueOf.objects indexed.graph.now) (bound_path c.args.left.now)
    (bound_path c.args.right.now) c.join_by.result c.join_by.ensures

pub returns-else-is_before : goal.returns-else-is_before
returns-else-is_before g c =
    let indexed = c.args.indexed.now in
    found_right indexed.labels.now (g.G.Adjacent.edges indexed.graph.now) (g.G.ValueOf.objects indexed.graph.now) (bound_path c.args.left.now)
    (bound_path c.args.right.now) c.join_by-else-is_before.result c.join_by-else-is_before.ensures
