use Rattle.std.proofs.lemmas.Result.{on_ok_weaker}
use Rattle.lorel_ranges.specs.Views.{place_tree}
use Rattle.live_views.proofs.LookLaws.{LooksAt-push}
use Rattle.live_views.proofs.looks.Looks.add_place.Goals as goal

pub returns-clause-places : goal.returns-clause-places
returns-clause-places c =
    on_ok_weaker c.add_parts.result
    (λ gained earlier looks. LooksAt-push earlier (place_tree c.args.place.now) c.args.self.now _ c.in_ok-add_start.ensures gained looks)
    c.add_parts.ensures
