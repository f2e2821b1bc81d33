use Rattle.std.proofs.Common.{◌+◌, ◌-◌, length, drop}
use Rattle.lore_base.specs.Databases.{IsLive}
use Rattle.live_views.specs.Types.{Oid}
use Rattle.live_views.proofs.shared.share_object.Given as goal

-- an object of both lists stands in what is left of both
abbrev pub invariant-places : goal.invariant-places
invariant-places l = (oid : Oid) → IsLive l.gone oid → IsLive l.come oid → IsLive (drop l.i l.gone) oid × IsLive (drop l.j l.come) oid

abbrev pub decreases-places : goal.decreases-places
decreases-places l = (length l.gone - l.i) + (length l.come - l.j)
