use Rattle.std.proofs.Common.{true≢false, sym, ap, ◌∙◌}
use Rattle.std.proofs.lemmas.Option.{none-some}
use Rattle.live_views.specs.Views.{view_of, select_in}
use Rattle.lore_db.proofs.WatchLaws.{no_select}
use Rattle.lore_db.proofs.viewing.is_one_too_many.Goals as goal

pub returns-in-Some : goal.returns-in-Some
returns-in-Some c =
    (λ is. absurd (true≢false (sym is)), λ many. absurd (none-some _ (sym (c.in-Some.ensures ∙ ap select_in many.0))))

pub returns-in-None : goal.returns-in-None
returns-in-None c =
    let none = no_select (view_of c.args.views.now c.args.name.now) c.in-None.ensures in
    (λ most. (none, c.are_most.ensures.0 most), λ many. c.are_most.ensures.1 many.1)
