use Rattle.std.proofs.Common.{true≢false, sym, ◌∙◌, arith}
use Rattle.change_lines.proofs.LineLaws.{put-start, put-gone, put-come, put-whole}
use Rattle.change_lines.proofs.lines.put_changes.Goals as goal

pub changes-init : goal.changes-init
changes-init g c =
    put-start g.F.Told.order g.met.F.Told.total (g.F.Told.line c.args.labels.now) c.args.gone.now c.args.come.now c.requires.gone c.requires.come
    c.args.lines.now

pub changes-preserved-then-goes_next : goal.changes-preserved-then-goes_next
changes-preserved-then-goes_next g c =
    put-gone g.F.Told.order g.met.F.Told.total (g.F.Told.line c.args.labels.now) c.args.gone.now c.args.come.now c.requires.gone c.requires.come
    c.args.lines.now c.changes.gone_before c.changes.come_before c.changes.lines c.changes.invariant c.index-gone-gone_before.result
    c.put_change.new.lines (c.goes_next.ensures.goes c.if-goes_next.true) c.index-gone-gone_before.is c.in_ok-put_change.ensures

pub changes-preserved : goal.changes-preserved
changes-preserved g c =
    put-come g.F.Told.order g.met.F.Told.total (g.F.Told.line c.args.labels.now) c.args.gone.now c.args.come.now c.requires.gone c.requires.come
    c.args.lines.now c.changes.gone_before c.changes.come_before c.changes.lines c.changes.invariant c.index-come-come_before.result
    c.put_change-else-goes_next.new.lines (c.goes_next.ensures.comes (λ h. true≢false (sym h ∙ c.if-goes_next.false))) c.index-come-come_before.is c.in_ok-put_change-2.ensures

pub returns : goal.returns
returns g c =
    put-whole g.F.Told.order g.met.F.Told.total (g.F.Told.line c.args.labels.now) c.args.gone.now c.args.come.now c.requires.gone c.requires.come
    c.args.lines.now c.changes.gone_before c.changes.come_before c.changes.lines c.changes.invariant
    (omega arith) (omega arith)
