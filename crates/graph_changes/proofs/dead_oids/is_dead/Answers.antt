use Rattle.std.proofs.Common.{sym}
use Rattle.graph_changes.proofs.DeadLaws.{found_oid, no_oid}
use Rattle.graph_changes.proofs.LeftLaws.{among, not_among}
use Rattle.graph_changes.proofs.dead_oids.is_dead.Goals as goal

pub returns-then-stands_at : goal.returns-then-stands_at
returns-then-stands_at c = sym (c.stands_at.ensures c.if-stands_at.true)

pub returns-in-Ok : goal.returns-in-Ok
returns-in-Ok c = sym (among _ _ (found_oid _ _ _ _ c.in-Ok.ensures.bound (c.in-Ok.ensures.position c.args.oid)))

pub returns-in-Err : goal.returns-in-Err
returns-in-Err c = sym (not_among _ _ (no_oid _ c.requires _ _ c.in-Err.ensures.position))
