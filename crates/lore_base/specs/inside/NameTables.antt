-- Tables of names: bound one after another, taken away, and read.
use Rattle.std.specs.Prelude.{ℕ, List, [], ◌∷◌, ◌++◌}
use Rattle.std.specs.Option.{option_to_list}
use Rattle.std.specs.Map.{remove_entry}
use Rattle.std.specs.BTreeMap.{insert_entry, is_at}
use Rattle.lore_base.specs.Types.{Oid}
use Rattle.lore_lists.specs.Bytes.{bytes_cmp}
use Rattle.lore_base.specs.Names.{object_of}

-- names bound one after another, each in place of an older binding
abbrev pub names_after : List (List ℕ × Oid) → List (List ℕ × Oid) → List (List ℕ × Oid)
names_after names [] = names
names_after names (entry ∷ others) = names_after (insert_entry bytes_cmp names entry.0 entry.1) others

-- names without these
abbrev pub names_without : List (List ℕ × Oid) → List (List ℕ) → List (List ℕ × Oid)
names_without names [] = names
names_without names (word ∷ others) = names_without (remove_entry (is_at (bytes_cmp word)) names) others

-- the objects of those words that are names
abbrev pub found_objects : List (List ℕ × Oid) → List (List ℕ) → List Oid
found_objects names [] = []
found_objects names (word ∷ others) = option_to_list (object_of names word) ++ found_objects names others
