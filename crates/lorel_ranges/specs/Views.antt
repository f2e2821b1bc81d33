-- What the places and ranges of the program stand for.
use Rattle.std.specs.Prelude.{ℕ, List, map, take}
use denote.Ref.{Bor}
use Rattle.lore_base.specs.Paths.{path_tree}
use Rattle.lorel_ranges.specs.Places as p
use Rattle.lorel_ranges.specs.Ranges as r
use Rattle.lorel_ranges.specs.declared.places.Root.{Root}
use Rattle.lorel_ranges.specs.declared.places.Root.TheVariants.{Named, Ranged, Quantified}
use Rattle.lorel_ranges.specs.declared.places.Place.{Place}
use Rattle.lorel_ranges.specs.declared.text.Shown.{Shown}
use Rattle.lorel_ranges.specs.declared.text.Shown.TheVariants.{Object, Word}
use Rattle.lorel_ranges.specs.declared.select_ranges.TextRange.{TextRange}

abbrev pub root_tree : Root → p.Root
root_tree (Named name) = p.named name.now
root_tree (Ranged variable) = p.ranged variable.now
root_tree (Quantified depth) = p.quantified depth

abbrev pub place_tree : Place → p.Place
place_tree place = record { root = root_tree place.root; parts = map path_tree place.parts.now }

-- so many parts of a place alone
abbrev pub prefix_of : ℕ → p.Place → p.Place
prefix_of len place = record { root = place.root; parts = take len place.parts }

abbrev pub place_trees : List Place → List p.Place
place_trees places = map place_tree places

-- what an item shows
abbrev pub shown_tree : Shown → p.CellPlace
shown_tree (Object place) = p.object (place_tree place)
shown_tree (Word place) = p.word (place_tree place)

abbrev pub shown_trees : List Shown → List p.CellPlace
shown_trees shown = map shown_tree shown

abbrev pub texts : List (Bor (List ℕ)) → List (List ℕ)
texts list = map (λ text. text.now) list

-- a range of the program as plain data
abbrev pub range_of : TextRange → r.PlacedRange
range_of range = record {
  start = place_tree range.start;
  parts = map (λ part. path_tree part.now) range.parts.items;
  place = place_tree range.place;
}

abbrev pub ranges_of : List TextRange → List r.PlacedRange
ranges_of ranges = map range_of ranges
