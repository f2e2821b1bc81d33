use Rattle.std.proofs.Common.{map, sym}
use Rattle.lorel_bound.specs.Bound.{bound_cond, conds_from}
use Rattle.lorel_bound.specs.Conditions.{and}
use Rattle.slot_joins.proofs.JoinLaws.{adds_member, adds_more}
use Rattle.slot_joins.proofs.members.push_each.Goals as goal

pub members-init : goal.members-init
members-init g c = λ whole follows all. all

pub members-preserved : goal.members-preserved
members-preserved g c =
    let indexed = c.args.indexed.now in
    let labels = indexed.labels.now in
    let edges = g.G.Adjacent.edges indexed.graph.now in
    let objects = g.G.ValueOf.objects indexed.graph.now in
    let members = c.args.members.now in
    adds_more labels edges objects (and (conds_from (map bound_cond members))) c.args.joins.now.items c.members.joins.items c.push_join.new.joins.items
    c.members.invariant
    (adds_member labels edges objects members c.member-item.result c.members.joins.items c.push_join.new.joins.items
    (c.members.member-index, c.members-test.true, sym c.member-item.is) c.in_ok-push_join.ensures)
