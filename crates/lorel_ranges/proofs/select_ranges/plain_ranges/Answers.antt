use Rattle.std.proofs.Common.{[], ◌∙◌, length, map, sym, ap}
use Rattle.std.proofs.lemmas.List.{length-map}
use Rattle.lorel_trees.specs.Trees.{from_tree, select_tree}
use Rattle.lorel_ranges.specs.Views.{place_tree, place_trees, ranges_of}
use Rattle.lorel_ranges.proofs.MakingLaws.{from_places_length, plain_made}
use Rattle.lorel_ranges.proofs.select_ranges.plain_ranges.Goals as goal

pub add_items-requires-clause-paths : goal.add_items-requires-clause-paths
add_items-requires-clause-paths c =
    let query = select_tree c.args.query.now in
    ap length c.as_slice-2.ensures.value ∙ sym (length-map c.args.text.now.from.places.items place_tree) ∙ ap length c.requires.from.places
    ∙ from_places_length [] query.tail.ranges ∙ length-map c.args.query.now.tail.ranges from_tree ∙ sym (ap length c.as_slice.ensures)

pub returns-clause-plain : goal.returns-clause-plain
returns-clause-plain c =
    plain_made (select_tree c.args.query.now) (map from_tree c.as_slice.result.now) (place_trees c.as_slice-2.result.now)
    (place_trees c.as_slice-3.result.now) (ranges_of c.new-ranges.result.fused.items) (ranges_of c.add_items.new.self.fused.items)
    (ranges_of c.add_paths.new.self.fused.items) (ap ranges_of c.new-ranges.ensures.none) (ap (map from_tree) c.as_slice.ensures)
    (ap place_trees c.as_slice-2.ensures.value ∙ c.requires.from.places) (ap place_trees c.as_slice-3.ensures.value ∙ c.requires.items.places)
    c.in_ok-add_items.ensures.made c.in_ok-add_paths.ensures.made
