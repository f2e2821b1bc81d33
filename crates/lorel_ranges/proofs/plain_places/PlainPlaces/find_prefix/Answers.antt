use Rattle.std.proofs.Common.{◌≡◌, ◌∙◌, ℕ, List, Some, All, IfSome, sym, ap, subst}
use Rattle.std.specs.List.{Contains, slice_get}
use Rattle.lorel_ranges.specs.Places.{Place}
use Rattle.lorel_ranges.specs.Views.{place_tree, place_trees}
use Rattle.lorel_ranges.specs.inside.Indexes.{IsPrefix}
use Rattle.lorel_ranges.specs.declared.places.Place as declared
use Rattle.lorel_ranges.proofs.FindLaws.{unprefixed, none_weaker}
use Rattle.lorel_ranges.proofs.plain_places.PlainPlaces.find_prefix.Goals as goal

pub number_of-requires : goal.number_of-requires
number_of-requires c =
    subst (λ (ps : List declared.Place). All (IsPrefix (place_trees ps)) c.as_slice-2.result.now) (sym c.as_slice.ensures.value)
    (subst (λ (ns : List ℕ). All (IsPrefix (place_trees c.self.inside.places.items)) ns) (sym c.as_slice-2.ensures.value) c.self.invariant.kept)

pub returns-clause-some : goal.returns-clause-some
returns-clause-some c =
    subst (λ (all : List Place). IfSome c.number_of.result (λ number. slice_get all number ≡ Some (place_tree c.args.place)))
    (ap place_trees (c.as_slice.ensures.value ∙ c.self.view_is)) c.number_of.ensures.some

pub returns-clause-none : goal.returns-clause-none
returns-clause-none c =
    let inside = c.self.inside in
    let all = place_trees inside.places.items in
    none_weaker c.number_of.result _ _ (λ none at. unprefixed all inside.prefixes.items inside.variables (place_tree c.args.place) c.self.invariant
    (subst (λ (ps : List declared.Place). All (λ number. slice_get (place_trees ps) number ≡ Some (place_tree c.args.place) → ⊥) inside.prefixes.items)
    c.as_slice.ensures.value
    (subst (λ (ns : List ℕ). All (λ number. slice_get (place_trees c.as_slice.result.now) number ≡ Some (place_tree c.args.place) → ⊥) ns)
    c.as_slice-2.ensures.value none))
    (subst (λ (ps : List Place). Contains ps (place_tree c.args.place)) (sym (ap place_trees c.self.view_is)) at)) c.number_of.ensures.none
