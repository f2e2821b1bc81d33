use Rattle.std.proofs.Common.{◌+◌, ◌-◌, length}
use Rattle.change_lines.proofs.LineLaws.{HasPut}
use Rattle.change_lines.proofs.lines.put_changes.Given as goal

abbrev pub invariant-changes : goal.invariant-changes
invariant-changes g l =
    HasPut g.F.Told.order (g.F.Told.line l.labels) l.gone l.come l.fn.lines l.gone_before l.come_before l.lines

abbrev pub decreases-changes : goal.decreases-changes
decreases-changes g l = (length l.gone - l.gone_before) + (length l.come - l.come_before)
