use Rattle.std.proofs.Common.{◌≡◌, ◌∙◌, [], ◌∷◌, List, Some, map, inl, inr, refl, sym, ap, subst}
use Rattle.std.specs.List.{Contains, slice_get}
use Rattle.std.proofs.lemmas.List.{map-append}
use Rattle.list_laws.proofs.PlaceLaws.{Contains-from_place}
use Rattle.lore_base.specs.Paths.{path_tree}
use Rattle.lorel_ranges.specs.Places.{Place, at_root, ranged}
use Rattle.lorel_ranges.specs.Ranges.{places}
use Rattle.lorel_ranges.specs.Views.{place_tree, place_trees, ranges_of}
use Rattle.lorel_ranges.proofs.FindLaws.{found_some, found_none}
use Rattle.lorel_ranges.proofs.MakingLaws.{map_now, pushed_range, fresh_more, absent_place}
use Rattle.lorel_ranges.proofs.select_ranges.SelectRanges.add_variable.Goals as goal
use Rattle.lorel_ranges.proofs.select_ranges.SelectRanges.add_variable.Goals.{Else-is_some}

-- a variable that isn't found has no place
unplaced : (c : Else-is_some) → Contains (place_trees c.args.self.now.plain) (at_root (ranged c.args.variable.now)) → ⊥
unplaced c =
    found_none c.find.result (Contains (place_trees c.args.self.now.plain) (at_root (ranged c.args.variable.now)) → ⊥) (sym c.if-is_some.ensures) c.find.ensures.none

-- nor a range
absent : (c : Else-is_some) → Contains (places (ranges_of c.args.self.now.fused.items)) (at_root (ranged c.args.variable.now)) → ⊥
absent c = absent_place c.args.self.now (at_root (ranged c.args.variable.now)) c.requires.fresh.linked (unplaced c)

pub returns-then-is_some-clause-made : goal.returns-then-is_some-clause-made
returns-then-is_some-clause-made c =
    let place = at_root (ranged c.args.variable.now) in
    let found = found_some c.find.result (λ number. slice_get (place_trees c.args.self.now.plain) number ≡ Some place) (sym c.if-is_some.ensures) c.find.ensures.some in
    inl (
      subst (λ (all : List Place). Contains all place) c.requires.fresh.linked.same (Contains-from_place (place_trees c.args.self.now.plain) found.0 place found.1),
      refl,
    )

pub add_variable-requires-clause-is_new : goal.add_variable-requires-clause-is_new
add_variable-requires-clause-is_new c at =
    unplaced (goal.at.add_variable-requires-clause-is_new c).Else-is_some
    (subst (λ (all : List Place). Contains all (at_root (ranged c.args.variable.now))) (ap place_trees c.in_ok-push.ensures.plain) at)

pub returns-clause-fresh : goal.returns-clause-fresh
returns-clause-fresh c =
    fresh_more c.args.self.now c.push.new.self _ (place_tree c.prefix.result) _ (at_root (ranged c.args.variable.now)) c.requires.fresh
    c.in_ok-push.ensures (absent (goal.at.returns-clause-fresh c).Else-is_some) (ap place_trees c.in_ok-add_variable.ensures ∙ map-append place_tree c.push.new.self.plain (_ ∷ [])) refl

pub returns-clause-made : goal.returns-clause-made
returns-clause-made c = inr (
  absent (goal.at.returns-clause-made c).Else-is_some,
  pushed_range c.args.self.now c.push.new.self (place_tree c.prefix.result) _ _ _ _ _ c.in_ok-push.ensures c.prefix.ensures.place
      (map_now path_tree c.in_ok-parts.parts.items ∙ ap (map path_tree) c.in_ok-parts.ensures) refl,
)
