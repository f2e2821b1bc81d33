use Rattle.std.proofs.Common.{sym, set, subst}
use Rattle.edge_lists.specs.Types.{ObjectRecord}
use Rattle.edge_lists.specs.Objects.{IsHeaded}
use Rattle.edge_lists.proofs.ObjectLaws.{headed}
use Rattle.edge_lists.proofs.objects.set_head.Goals as goal

pub returns-in_default : goal.returns-in_default
returns-in_default c = absurd (c.in_default.ensures.none c.requires.live)

pub returns-in-Some : goal.returns-in-Some
returns-in-Some c = subst
    (λ (o : ObjectRecord). IsHeaded c.args.objects.now c.args.side c.args.oid c.args.link (set c.args.objects.now c.in-Some.place o))
    (sym c.set_first.ensures)
    (headed c.args.objects.now c.requires.ascend c.args.side c.in-Some.place _ c.args.oid c.args.link c.in-Some.ensures.inside (c.in-Some.ensures.found _))
