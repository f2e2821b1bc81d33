-- Why a select is refused before it runs: the first cause that applies.
use Rattle.std.specs.Prelude.{◌≡◌, ◌≢◌, ℕ, ◌<◌, ◌⊎◌, List, [], ◌∷◌, length, sum_by, None, AllPairs, Contains}
use Rattle.lorel_bind.specs.Types.{Oid, Refusal, RANGES, ITEMS, LEAVES}
use Rattle.lorel_bind.specs.Types.refusals
use Rattle.lore_base.specs.Names.{object_of}
pub use Rattle.lore_base.specs.Verdicts.{IsFirst, IsClear, IsToldBy}
use Rattle.lore_base.specs.Paths.{leaves_of, trees_of}
use Rattle.lorel_trees.specs.Trees.{SelectTree}
use Rattle.lorel_trees.specs.Trees as t
use Rattle.lorel_bind.specs.Faults.{refusal_of}
use Rattle.lorel_bind.specs.declared.faults.BindFault.{BindFault}
use Rattle.lorel_ranges.specs.Places.{named, Place, path_variables, word_place}
use Rattle.lorel_ranges.specs.Texts.{text_places, ranged_identifiers}
use Rattle.lorel_ranges.specs.Ranges.{PlacedRange, ArePlain, AreFused, IsUsed}

-- a path starts at an identifier that is neither a variable in scope nor a name
abbrev pub StartsNowhere : List (List ℕ × Oid) → SelectTree → List ℕ → Type 0
StartsNowhere names query start =
    (place : Place) × Contains (text_places query) place × (place.root ≡ named start)
    × (object_of names start ≡ None)

-- such an identifier isn't ranged anywhere in the statement
abbrev pub HasUnknownName : List (List ℕ × Oid) → SelectTree → Type 0
HasUnknownName names query =
    (start : List ℕ) × StartsNowhere names query start × (Contains (ranged_identifiers query) start → ⊥)

-- an item names a path variable that no from item has
abbrev pub HasUnknownPathVariable : SelectTree → Type 0
HasUnknownPathVariable query =
    (variable : List ℕ) × Contains query.items (t.path_of variable)
    × (word_place (path_variables query.tail.ranges) variable ≡ None)

-- such an identifier is ranged elsewhere, or an item names such a path variable
abbrev pub HasUnknownVariable : List (List ℕ × Oid) → SelectTree → Type 0
HasUnknownVariable names query =
    ((start : List ℕ) × StartsNowhere names query start × Contains (ranged_identifiers query) start)
    ⊎ HasUnknownPathVariable query

-- one identifier is ranged twice
abbrev pub HasDuplicate : SelectTree → Type 0
HasDuplicate query = AllPairs (λ a b. a ≢ b) (ranged_identifiers query) → ⊥

-- more ranges are left after fusing than a row has slots
abbrev pub HasManyRanges : SelectTree → Type 0
HasManyRanges query = (plain : List PlacedRange) × (fused : List PlacedRange) × ArePlain query plain
    × AreFused (IsUsed query plain) plain fused × (RANGES < length fused)

-- so many leaves stand in these paths
abbrev pub leaves_in : List Place → ℕ
leaves_in places = sum_by (λ place. leaves_of (trees_of place.parts)) places

-- too many ranges, items or path leaves
abbrev pub HasTooMany : SelectTree → Type 0
HasTooMany query =
    HasManyRanges query ⊎ ((ITEMS < length query.items) ⊎ (LEAVES < leaves_in (text_places query)))

-- the cause of each refusal of a select over these names
abbrev pub BindCause : List (List ℕ × Oid) → SelectTree → Refusal → Type 0
BindCause names query refusals.UnknownName = HasUnknownName names query
BindCause names query refusals.UnknownVariable = HasUnknownVariable names query
BindCause names query refusals.DuplicateVariable = HasDuplicate query
BindCause names query refusals.TooManyRanges = HasTooMany query
BindCause names query _ = ⊥

-- the order in which causes are tried
abbrev pub bind_order : List Refusal
bind_order = refusals.UnknownName ∷ refusals.UnknownVariable ∷ refusals.DuplicateVariable ∷ refusals.TooManyRanges ∷ []

-- a fault of binding is want of memory, or tells the first cause that applies
abbrev pub IsRefusedBy : List (List ℕ × Oid) → SelectTree → BindFault → Type 0
IsRefusedBy names query fault = IsToldBy (BindCause names query) bind_order (refusal_of fault)

-- no cause applies
abbrev pub IsAccepted : List (List ℕ × Oid) → SelectTree → Type 0
IsAccepted names query = IsClear (BindCause names query) bind_order
