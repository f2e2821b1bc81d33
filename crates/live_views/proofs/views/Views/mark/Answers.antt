use Rattle.std.proofs.Common.{ℕ, None, List, [], take, Contains, sym, subst}
use Rattle.lore_base.proofs.MemberLaws.{Contains-none}
use Rattle.list_laws.proofs.PartLaws.{take_more_read}
use Rattle.live_views.specs.Views.{TurnsRows}
use Rattle.live_views.proofs.RowLaws.{TurnsRows-untold, TurnsRows-push}
use Rattle.live_views.proofs.views.Views.mark.Goals as goal

pub names-init : goal.names-init
names-init c = TurnsRows-untold (Contains []) None c.args.self.now (λ entry there told. Contains-none entry.0 told)

pub names-preserved : goal.names-preserved
names-preserved c =
    let items = c.as_slice-name-items.result.now in
    let i = c.names.name-index in
    subst (λ (names : List (List ℕ)). TurnsRows (Contains names) None c.args.self.now c.set_rows.new.self)
    (sym (take_more_read items i c.name-item.result c.names-test.true c.name-item.is))
    (TurnsRows-push (take i items) c.name-item.result None c.args.self.now c.names.self c.set_rows.new.self c.names.invariant c.set_rows.ensures)
