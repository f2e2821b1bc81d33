use Rattle.std.proofs.Common.{None, sym, ap, ◌∙◌}
use Rattle.edge_lists.specs.Types.{ObjectRecord, Complex}
use Rattle.edge_lists.specs.Objects.{head_of}
use Rattle.edge_lists.proofs.ObjectLaws.{head-at, head-none}
use Rattle.edge_lists.proofs.objects.head.Goals as goal

any : ObjectRecord
any = record { oid = record { 0 = 0 }; value = Complex; first_out = None; first_in = None }

pub returns-in-None : goal.returns-in-None
returns-in-None c = sym (head-none c.args.side c.args.objects.now c.args.oid c.in-None.ensures.none)

pub returns-in-Some : goal.returns-in-Some
returns-in-Some c =
    c.first_at.ensures any ∙ sym (head-at c.args.side c.args.objects.now c.requires c.in-Some.place any c.in-Some.ensures.inside)
    ∙ ap (head_of c.args.side c.args.objects.now) (c.in-Some.ensures.found any)
