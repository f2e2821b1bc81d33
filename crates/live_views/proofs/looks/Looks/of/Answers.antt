use Rattle.std.proofs.Common.{◌++◌, [], ap, ◌∙◌, subst, sym, ◌↔◌, Bool, IsTrue}
use Rattle.lorel_trees.specs.Trees.{select_tree}
use Rattle.lorel_ranges.specs.Views.{place_trees}
use Rattle.live_views.specs.Concerns.{ComparesValues}
use Rattle.live_views.proofs.LookLaws.{looks_of}
use Rattle.live_views.proofs.looks.Looks.of.Goals as goal

pub returns : goal.returns
returns c =
    let query = select_tree c.args.select.now in
    let text = c.in_ok-text.ensures in
    let from = place_trees c.as_slice.result.now in
    let items = place_trees c.as_slice-2.result.now in
    let compares = c.in_ok-add_places-3.ensures.compares ∙ c.in_ok-add_places-2.ensures.compares ∙ c.in_ok-add_places.ensures.compares ∙ c.new-looks.ensures.compares in
    looks_of query c.add_places-3.new.self from items (place_trees c.as_slice-3.result.now)
    (ap place_trees c.as_slice.ensures.value ∙ text.from.places) (ap place_trees c.as_slice-2.ensures.value ∙ text.items.places)
    (ap place_trees c.as_slice-3.ensures.value ∙ text.conditions)
    (subst (λ (test : Bool). IsTrue test ↔ ComparesValues query) (sym compares) c.compares_values.ensures)
    (c.in_ok-add_places-3.ensures.places (([] ++ from) ++ items) (c.in_ok-add_places-2.ensures.places ([] ++ from)
    (c.in_ok-add_places.ensures.places [] c.new-looks.ensures.places)))
