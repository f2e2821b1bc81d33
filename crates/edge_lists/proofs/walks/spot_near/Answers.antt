use Rattle.std.proofs.Common.{sym, ap, ◌∙◌}
use Rattle.edge_lists.specs.Types.{Oid}
use Rattle.edge_lists.specs.Chains.{next_of}
use Rattle.edge_lists.proofs.WalkLaws.{place_here}
use Rattle.edge_lists.proofs.walks.spot_near.Goals as goal

pub returns-clause-place : goal.returns-clause-place
returns-clause-place c waiting chained among start =
    let is = ap (λ (o : Oid). next_of c.args.side c.args.objects.now c.args.records.now o c.args.start) (sym c.owner-owner.ensures) ∙ sym c.next_of-next.ensures in
    place_here c.args.side c.args.objects.now c.args.records.now waiting chained c.args.edge.now c.args.start c.next_of-next.result start is (c.is_past.ensures c.if-not-is_past.false)

pub returns-clause-next : goal.returns-clause-next
returns-clause-next c = c.next_of-next.ensures ∙ ap (λ (o : Oid). next_of c.args.side c.args.objects.now c.args.records.now o c.args.start) c.owner-owner.ensures
