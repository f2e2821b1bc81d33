-- Which objects walks reach from given starts.
use Rattle.std.specs.Prelude.{List, Contains}
use Rattle.lore_base.specs.Walks.{Walk}
use Rattle.object_search.specs.Types.{Oid, Label, Edge}

-- some walk leads from one of the starts to the object
abbrev pub IsWalkedFrom : List Edge → List Oid → Oid → Type 0
IsWalkedFrom edges starts oid =
    (start : Oid) × (word : List Label) × Contains starts start × Walk edges start word oid
