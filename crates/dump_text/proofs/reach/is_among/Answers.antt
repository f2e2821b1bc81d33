use Rattle.std.proofs.Common.{true≢false, sym, refl}
use Rattle.graph_changes.proofs.DeadLaws.{found_oid, no_oid}
use Rattle.dump_text.proofs.reach.is_among.Goals as goal

pub returns-in-Ok : goal.returns-in-Ok
returns-in-Ok c = (λ _. found_oid _ _ _ _ c.in-Ok.ensures.bound (c.in-Ok.ensures.position c.args.oid), λ _. refl)

pub returns-in-Err : goal.returns-in-Err
returns-in-Err c = (λ h. absurd (true≢false (sym h)), λ at. absurd (no_oid _ c.requires _ _ c.in-Err.ensures.position at))
