use Rattle.std.proofs.Common.{◌≡◌, ◌∙◌, List, Some, IfSome, length, sym, ap, subst}
use Rattle.std.specs.List.{Contains, slice_get}
use Rattle.std.proofs.lemmas.Bool.{eqb-true}
use Rattle.lorel_ranges.specs.Places.{Place, at_root, ranged}
use Rattle.lorel_ranges.specs.Views.{place_trees}
use Rattle.lorel_ranges.proofs.FindLaws.{if_none, linked_stands, unlinked, variable_place}
use Rattle.lorel_ranges.proofs.plain_places.PlainPlaces.find.Goals as goal

pub returns-in-Ranged-clause-some : goal.returns-in-Ranged-clause-some
returns-in-Ranged-clause-some c =
    let inside = c.self.inside in
    let place = variable_place c.args.place c.in-Ranged.variable c.in-Ranged.is (eqb-true (length c.args.place.parts.now) 0 (sym c.if-is_empty.ensures)) in
    subst (λ (p : Place). IfSome c.number.result (λ number. slice_get (place_trees c.args.self.now) number ≡ Some p)) (sym place)
    (subst (λ (all : List Place). IfSome c.number.result (λ number. slice_get all number ≡ Some (at_root (ranged c.in-Ranged.variable.now))))
    (ap place_trees c.self.view_is)
    (linked_stands (place_trees inside.places.items) inside.prefixes.items inside.variables c.in-Ranged.variable.now c.number.result
    c.self.invariant c.number.ensures))

pub returns-in-Ranged-clause-none : goal.returns-in-Ranged-clause-none
returns-in-Ranged-clause-none c =
    let inside = c.self.inside in
    let place = variable_place c.args.place c.in-Ranged.variable c.in-Ranged.is (eqb-true (length c.args.place.parts.now) 0 (sym c.if-is_empty.ensures)) in
    if_none c.number.result _ (λ none at. unlinked (place_trees inside.places.items) inside.prefixes.items inside.variables c.in-Ranged.variable.now
    c.self.invariant (sym c.number.ensures ∙ none)
    (subst (λ (all : List Place). Contains all (at_root (ranged c.in-Ranged.variable.now))) (sym (ap place_trees c.self.view_is))
    (subst (λ (p : Place). Contains (place_trees c.args.self.now) p) place at)))
