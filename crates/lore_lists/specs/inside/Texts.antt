-- The bytes of a text.
use Rattle.std.specs.Prelude.{ℕ, List}
use Rattle.lore_lists.specs.declared.texts.TextBytes.{TextBytes}
use Rattle.lore_lists.specs.declared.texts.TextBytes.TheVariants.{Short, Long}

-- the bytes of a text, wherever they stand
abbrev pub bytes_of : TextBytes → List ℕ
bytes_of (Short short _) = short.items
bytes_of (Long long) = long.value.items
