use Rattle.std.proofs.Common.{ap, arith}
use Rattle.lore_lists.proofs.roomy_list.RoomyList.append_reserved.Goals as goal

pub returns-clause-room : goal.returns-clause-room
returns-clause-room g c = omega (arith, c.requires, ap (λ v. v.room) c.self.view_is, c.in-Ok.ensures.capacity, c.in-Ok.ensures.len)
