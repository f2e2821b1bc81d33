use Rattle.std.proofs.Common.{sym}
use Rattle.oem_reach.proofs.ListedLaws.{listed, not_listed, found_oid, none_found}
use Rattle.oem_reach.proofs.oid_sets.is_among.Goals as goal

pub returns-in-Ok : goal.returns-in-Ok
returns-in-Ok c = sym (listed _ _ (found_oid _ _ _ _ c.in-Ok.ensures.bound (c.in-Ok.ensures.position c.args.oid)))

pub returns-in-Err : goal.returns-in-Err
returns-in-Err c = sym (not_listed _ _ (none_found _ c.requires _ _ c.in-Err.ensures.position))
