use Rattle.std.proofs.Common.{sym}
use Rattle.value_index.proofs.MarkLaws.{marked-seen, mark-absent}
use Rattle.value_index.proofs.marks.mark.Goals as goal

pub returns-in-Ok : goal.returns-in-Ok
returns-in-Ok c =
    marked-seen c.args.kind c.args.objects.now.items _ _ _ c.args.oid c.in-Ok.place c.as_slice.ensures.value c.as_mut_slice.ensures.value c.requires
    c.in-Ok.ensures.bound c.in-Ok.ensures.position c.mark_at.ensures (sym c.as_mut_slice.ensures.len)

pub returns-in-Err : goal.returns-in-Err
returns-in-Err c = mark-absent c.args.kind c.args.objects.now.items _ c.args.oid _ c.as_slice.ensures.value c.requires c.in-Err.ensures.position
