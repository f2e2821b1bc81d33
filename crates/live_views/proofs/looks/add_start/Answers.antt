use Rattle.std.proofs.Common.{◌≡◌, ◌⊎◌, ◌↔◌, ℕ, List, sym, ap, ◌∙◌, subst}
use Rattle.std.specs.List.{Contains}
use Rattle.std.proofs.lemmas.Result.{on_ok_weaker}
use Rattle.lorel_ranges.specs.Places.{named}
use Rattle.lorel_ranges.specs.Views.{root_tree}
use Rattle.live_views.proofs.LookLaws.{start_named}
use Rattle.live_views.proofs.looks.add_start.Goals as goal

pub returns-in_ok-try_copy-in-Named : goal.returns-in_ok-try_copy-in-Named
returns-in_ok-try_copy-in-Named c =
    let starts = c.args.starts.now in
    let root = root_tree c.args.root in
    let own = c.in_ok-try_copy-in-Named in
    on_ok_weaker c.push.result
    (λ pushed name. subst (λ (l : List (List ℕ)). Contains l name ↔ (Contains starts name ⊎ (root ≡ named name))) (sym pushed)
    (start_named starts own.field-0 name root (ap root_tree c.in-Named.is ∙ ap named (sym own.ensures))))
    c.push.ensures.ok
