-- Laws of ranges: those of a select, plain and fused, are determined, and there always are some.
use Rattle.std.specs.Prelude.{◌≡◌, List}
use Rattle.lorel_trees.specs.Trees.{SelectTree}
use Rattle.lorel_ranges.specs.Ranges.{PlacedRange, ArePlain, AreFused, IsUsed}

-- a select has one list of plain ranges
abbrev pub HasOnePlain : Type 0
HasOnePlain = (query : SelectTree) (plain other : List PlacedRange) → ArePlain query plain → ArePlain query other → plain ≡ other

abbrev pub HasSomePlain : Type 0
HasSomePlain = (query : SelectTree) → (plain : List PlacedRange) × ArePlain query plain

-- and one list of fused ranges
abbrev pub HasOneFused : Type 0
HasOneFused = (query : SelectTree) (plain fused other : List PlacedRange) → ArePlain query plain
    → AreFused (IsUsed query plain) plain fused → AreFused (IsUsed query plain) plain other → fused ≡ other

abbrev pub HasSomeFused : Type 0
HasSomeFused = (query : SelectTree) (plain : List PlacedRange) → ArePlain query plain
    → (fused : List PlacedRange) × AreFused (IsUsed query plain) plain fused
