use Rattle.std.proofs.Common.{sym}
use Rattle.slot_joins.proofs.JoinLaws.{told_by}
use Rattle.slot_joins.proofs.joins.fitting_by.Goals as goal

pub returns-then-is_some : goal.returns-then-is_some
returns-then-is_some g c =
    told_by (g.G.Adjacent.edges c.args.graph.now) (g.G.ValueOf.objects c.args.graph.now) c.args.joins.now c.join-item.result c.args.known.now c.args.slot
    c.args.row.now c.in_ok-found.found (c.joins.join-index, c.joins-test.true, sym c.join-item.is) (c.is_asked.ensures.slot c.if-is_asked.true)
    (c.is_asked.ensures.known c.if-is_asked.true) c.in_ok-found.ensures
