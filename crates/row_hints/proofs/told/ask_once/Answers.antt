use Rattle.std.proofs.Common.{false, replicate, sym, subst}
use Rattle.row_hints.specs.Types.{RANGES, Unasked}
use Rattle.row_hints.specs.Told.{IsTold}
use Rattle.row_hints.proofs.ToldLaws.{none_known, told_put, told_fits}
use Rattle.row_hints.proofs.told.ask_once.Goals as goal

pub returns-then-seen-lt-ENOUGH : goal.returns-then-seen-lt-ENOUGH
returns-then-seen-lt-ENOUGH g c =
    told_put (g.S.Hints.hints c.args.sources.now) c.args.told.now.items c.put.new.told.items c.args.slot (Unasked c.saturating_add-seen.result)
    c.put.ensures tt c.requires

pub returns : goal.returns
returns g c =
    let passes = (g.S.Hints.hints c.args.sources.now) in
    told_put passes c.args.told.now.items c.put-2.new.told.items c.args.slot c.answered.result c.put-2.ensures
    (subst (IsTold passes c.args.slot) (sym c.answered.ensures)
    (told_fits passes c.args.slot c.new-row.result (replicate RANGES false) c.in_ok-found.found (none_known RANGES) c.in_ok-found.ensures)) c.requires
