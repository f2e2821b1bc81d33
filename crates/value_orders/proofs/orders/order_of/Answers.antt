use Rattle.std.proofs.Common.{◌↔◌, List, map, Contains, subst, sym}
use Rattle.value_orders.specs.Types.{ValueEntry}
use Rattle.value_orders.specs.inside.Naming.{named, HoldTheirs}
use Rattle.value_orders.proofs.SortLaws.{theirs-of}
use Rattle.value_orders.proofs.orders.order_of.Goals as goal

pub returns-clause-ascend : goal.returns-clause-ascend
returns-clause-ascend c values theirs =
    c.in_ok-order.ensures.ascend values (subst (λ (l : List ValueEntry). HoldTheirs values l) (sym c.in_ok-own.ensures) (theirs-of c.args.kind c.args.entries.now values theirs))

pub returns-clause-members : goal.returns-clause-members
returns-clause-members c entry =
    subst (λ (l : List ValueEntry). Contains c.in_ok-order.order.items entry ↔ Contains (map named l) entry) c.in_ok-own.ensures (c.in_ok-order.ensures.members entry)
