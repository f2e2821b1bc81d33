use Rattle.std.proofs.Common.{◌∙◌, List, [], ◌∷◌, ◌++◌, sym, ap, subst, arith}
use Rattle.std.specs.List.{Contains}
use Rattle.lorel_ranges.specs.Places.{Place, at_root, ranged}
use Rattle.lorel_ranges.specs.Views.{place_trees}
use Rattle.lorel_ranges.specs.declared.places.Place as declared
use Rattle.lorel_ranges.proofs.FindLaws.{absent_unlinked}
use Rattle.lorel_ranges.proofs.IndexLaws.{variable_put}
use Rattle.lorel_ranges.proofs.plain_places.PlainPlaces.add_variable.Goals as goal

pub add-requires : goal.add-requires
add-requires c =
    let inside = c.self.inside in
    absent_unlinked (place_trees inside.places.items) inside.prefixes.items inside.variables c.args.variable.now c.self.invariant
    (λ at. c.requires.is_new (subst (λ (p : Place). Contains (place_trees c.args.self.now) p) (sym c.requires.is_its)
    (subst (λ (all : List Place). Contains all (at_root (ranged c.args.variable.now))) (ap place_trees c.self.view_is) at)))

pub invariant_of-self-2 : goal.invariant_of-self-2
invariant_of-self-2 c =
    let inside = c.self.inside in
    let none = absent_unlinked (place_trees inside.places.items) inside.prefixes.items inside.variables c.args.variable.now c.self.invariant
    (λ at. c.requires.is_new (subst (λ (p : Place). Contains (place_trees c.args.self.now) p) (sym c.requires.is_its)
    (subst (λ (all : List Place). Contains all (at_root (ranged c.args.variable.now))) (ap place_trees c.self.view_is) at))) in
    variable_put inside.places.items c.push.new.self.items c.args.place inside.prefixes.items inside.variables c.add.new.self c.args.variable.now
    c.len-number.result c.self.invariant (omega (arith, c.len-number.ensures, inside.places.ok.0)) none c.requires.is_its c.in_ok-add.ensures.ok
    (c.in_ok-push.ensures.items ∙ ap (λ (ps : List declared.Place). ps ++ c.args.place ∷ []) c.reserve.ensures.items)
