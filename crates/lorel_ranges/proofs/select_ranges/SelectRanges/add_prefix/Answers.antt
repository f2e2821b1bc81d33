use Rattle.std.proofs.Common.{◌∙◌, ◌+◌, [], ◌∷◌, map, inr, refl, sym, ap, subst, arith}
use Rattle.std.specs.List.{Contains}
use Rattle.std.proofs.lemmas.List.{length-map, map-append}
use Rattle.lore_base.specs.Paths.{path_tree}
use Rattle.lorel_ranges.specs.Places.{Place}
use Rattle.lorel_ranges.specs.Ranges.{places}
use Rattle.lorel_ranges.specs.Views.{place_tree, place_trees, ranges_of}
use Rattle.lorel_ranges.specs.inside.Indexes.{IsVariable}
use Rattle.lorel_ranges.proofs.FindLaws.{found_none}
use Rattle.lorel_ranges.proofs.MakingLaws.{map_now, part_alone, pushed_range, prefix_parts, absent_place, absent_prefix, fresh_more}
use Rattle.lorel_ranges.proofs.select_ranges.SelectRanges.add_prefix.Goals as goal
use Rattle.lorel_ranges.proofs.select_ranges.SelectRanges.add_prefix.Goals.{Else-is_some}

-- a prefix that isn't found has no range
absent : (c : Else-is_some) → Contains (places (ranges_of c.args.self.now.fused.items)) (place_tree c.prefix-place.result) → ⊥
absent c =
    let long = length-map c.args.path.parts.now path_tree in
    absent_place c.args.self.now (place_tree c.prefix-place.result) c.requires.fresh.linked
    (absent_prefix (place_trees c.args.self.now.plain) (place_tree c.args.path) (place_tree c.prefix-place.result) (c.args.len + 1)
    c.prefix-place.ensures.place (omega arith) (omega arith)
    (found_none c.find_prefix.result (Contains (place_trees c.args.self.now.plain) (place_tree c.prefix-place.result)
    → IsVariable (place_tree c.prefix-place.result)) (sym c.if-is_some.ensures) c.find_prefix.ensures.none))

pub add_prefix-requires : goal.add_prefix-requires
add_prefix-requires c =
    let long = length-map c.args.path.parts.now path_tree in
    prefix_parts (place_tree c.args.path) (place_tree c.prefix-place.result) (c.args.len + 1) c.prefix-place.ensures.place (omega arith) (omega arith)

pub returns-clause-fresh : goal.returns-clause-fresh
returns-clause-fresh c =
    fresh_more c.args.self.now c.push.new.self _ (place_tree c.prefix.result) _ (place_tree c.prefix-place.result) c.requires.fresh
    c.in_ok-push.ensures (absent (goal.at.returns-clause-fresh c).Else-is_some) (ap place_trees c.in_ok-add_prefix.ensures ∙ map-append place_tree c.push.new.self.plain (c.prefix-place.result ∷ [])) refl

pub returns-clause-made : goal.returns-clause-made
returns-clause-made c = inr (
  λ at. absent (goal.at.returns-clause-made c).Else-is_some
      (subst (λ (p : Place). Contains (places (ranges_of c.args.self.now.fused.items)) p) (sym c.prefix-place.ensures.place) at),
  pushed_range c.args.self.now c.push.new.self (place_tree c.prefix.result) _ _ _ (place_tree c.prefix-place.result) _ c.in_ok-push.ensures
      c.prefix.ensures.place
      (map_now path_tree c.in_ok-parts.parts.items ∙ ap (map path_tree) c.in_ok-parts.ensures ∙ part_alone path_tree c.args.path.parts.now c.args.len) c.prefix-place.ensures.place,
)
