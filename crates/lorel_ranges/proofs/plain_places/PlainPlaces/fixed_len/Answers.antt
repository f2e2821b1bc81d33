use Rattle.std.proofs.Common.{◌≡◌, ◌∙◌, ℕ, inl, inr, List, Some, refl, sym, ap, subst, arith}
use Rattle.std.specs.List.{Contains, slice_get}
use Rattle.std.proofs.lemmas.Bool.{cases_eq}
use Rattle.std.proofs.lemmas.List.{length-map}
use Rattle.list_laws.proofs.PlaceLaws.{Contains-from_place}
use Rattle.lore_base.specs.Paths.{path_tree}
use Rattle.lorel_ranges.specs.Places.{Place}
use Rattle.lorel_ranges.specs.Views.{place_tree, place_trees, prefix_of}
use Rattle.lorel_ranges.specs.inside.Indexes.{IsVariable}
use Rattle.lorel_ranges.proofs.PrefixLaws.{fixed_at}
use Rattle.lorel_ranges.proofs.FindLaws.{found_some, found_none, prefix_unvariable}
use Rattle.lorel_ranges.proofs.plain_places.PlainPlaces.fixed_len.Goals as goal

pub returns-then-is_some-clause-fixed : goal.returns-then-is_some-clause-fixed
returns-then-is_some-clause-fixed c ranges same =
    let path = place_tree c.args.path in
    let found = found_some c.find_prefix.result (λ number. slice_get (place_trees c.args.self.now) number ≡ Some (place_tree c.prefix.result))
    (sym c.if-is_some.ensures) c.find_prefix.ensures.some in
    let there = Contains-from_place (place_trees c.args.self.now) found.0 (place_tree c.prefix.result) found.1 in
    fixed_at ranges path c.prefixes.len
    (inr (subst (λ (all : List Place). Contains all (prefix_of c.prefixes.len path)) (sym same)
    (subst (λ (p : Place). Contains (place_trees c.args.self.now) p) c.prefix.ensures.place there)))
    (λ longer more within at. c.prefixes.invariant.none longer more (omega (arith, length-map c.args.path.parts.now path_tree))
    (subst (λ (all : List Place). Contains all (prefix_of longer path)) same at))
    (omega (arith, length-map c.args.path.parts.now path_tree))

pub prefixes-preserved : goal.prefixes-preserved
prefixes-preserved c = record {
  within = omega arith;
  none = λ longer more within at. elim (cases_eq longer c.prefixes.len) [
    | inl same ↦
        let path = place_tree c.args.path in
        let long = length-map c.args.path.parts.now path_tree in
        let here = subst (λ (p : Place). Contains (place_trees c.args.self.now) p)
        (ap (λ (n : ℕ). prefix_of n path) same ∙ sym c.prefix.ensures.place) at in
        let variable = found_none c.find_prefix.result (Contains (place_trees c.args.self.now) (place_tree c.prefix.result)
        → IsVariable (place_tree c.prefix.result)) (sym c.if-is_some.ensures) c.find_prefix.ensures.none here in
        prefix_unvariable path c.prefixes.len (omega arith) (omega arith) (subst IsVariable c.prefix.ensures.place variable)
    | inr apart ↦ c.prefixes.invariant.none longer (omega arith) within at
  ];
}

pub returns-clause-fixed : goal.returns-clause-fixed
returns-clause-fixed c ranges same =
    let path = place_tree c.args.path in
    let long = length-map c.args.path.parts.now path_tree in
    let none_left : c.prefixes.len ≡ 0 = omega arith in
    fixed_at ranges path 0 (inl refl)
    (λ longer more within at. c.prefixes.invariant.none longer (omega arith) (omega arith)
    (subst (λ (all : List Place). Contains all (prefix_of longer path)) same at))
    (omega arith)
