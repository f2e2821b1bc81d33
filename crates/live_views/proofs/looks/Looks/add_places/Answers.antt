use Rattle.std.proofs.Common.{◌++◌, ◌∷◌, ◌∙◌, List, [], take, sym, ap, subst, append-nil, append_assoc}
use Rattle.std.proofs.lemmas.List.{take_all}
use Rattle.list_laws.proofs.PartLaws.{map_more_read}
use Rattle.lorel_ranges.specs.Places.{Place}
use Rattle.lorel_ranges.specs.Views.{place_tree, place_trees}
use Rattle.live_views.specs.inside.Looks.{LooksAt}
use Rattle.live_views.proofs.looks.Looks.add_places.Goals as goal

pub places-init : goal.places-init
places-init c = record {
  places = λ earlier at. subst (λ (l : List Place). LooksAt l c.args.self.now) (sym (append-nil earlier)) at;
  compares = search;
}

pub places-preserved : goal.places-preserved
places-preserved c =
    let before = place_trees (take c.places.place-index c.args.places.now) in
    let place = place_tree c.place-item.result in
    let more = map_more_read place_tree c.args.places.now c.places.place-index c.place-item.result c.places-test.true c.place-item.is in
    record {
      places = λ earlier at.
          subst (λ (l : List Place). LooksAt l c.add_place.new.self)
          (append_assoc earlier before (place ∷ []) ∙ ap (λ (l : List Place). earlier ++ l) (sym more))
          (c.in_ok-add_place.ensures.places (earlier ++ before) (c.places.invariant.places earlier at));
      compares = c.in_ok-add_place.ensures.compares ∙ c.places.invariant.compares;
    }

pub returns-clause-places : goal.returns-clause-places
returns-clause-places c = λ earlier at.
    subst (λ (l : List Place). LooksAt (earlier ++ l) c.places.self)
    (ap place_trees (take_all c.places.place-index c.args.places.now c.places-test.false)) (c.places.invariant.places earlier at)
