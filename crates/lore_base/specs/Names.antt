-- Names and labels: which words they may be, and the table that binds names to objects.
use Rattle.std.specs.Prelude.{◌≡◌, ℕ, ◌≤◌, Bool, false, ◌&&◌, ◌||◌, nat_le, ◌==◌, List, [], ◌∷◌, length}
use Rattle.std.specs.Prelude.{codes, Option, IsTrue}
use Rattle.std.specs.List.{list_all}
use Rattle.std.specs.List.Sorted.{IsStrictlySortedBy}
use Rattle.std.specs.Map.{lookup, keys_of}
use Rattle.std.specs.BTreeMap.{is_at}
use Rattle.std.specs.Str.{bytes_eq}
use Rattle.lore_lists.specs.Bytes.{bytes_cmp}
use Rattle.lore_base.specs.Types.{Oid, WORD_BYTES}

-- the object that a name is bound to
abbrev pub object_of : List (List ℕ × Oid) → List ℕ → Option Oid
object_of names name = lookup (is_at (bytes_cmp name)) names

-- names ascend by their bytes, so none stands twice
abbrev pub IsNameTable : List (List ℕ × Oid) → Type 0
IsNameTable names = IsStrictlySortedBy bytes_cmp (keys_of names)

-- a letter or an underscore
abbrev pub is_word_start : ℕ → Bool
is_word_start byte =
    (nat_le 65 byte && nat_le byte 90) || ((nat_le 97 byte && nat_le byte 122) || (byte == 95))

-- a letter, a digit or an underscore
abbrev pub is_word_byte : ℕ → Bool
is_word_byte byte = is_word_start byte || (nat_le 48 byte && nat_le byte 57)

-- one letter or underscore, then letters, digits and underscores
abbrev pub IsIdentifier : List ℕ → Type 0
IsIdentifier [] = ⊥
IsIdentifier (first ∷ others) = IsTrue (is_word_start first) × IsTrue (list_all is_word_byte others)

-- the same as a test
abbrev pub is_identifier : List ℕ → Bool
is_identifier [] = false
is_identifier (first ∷ others) = is_word_start first && list_all is_word_byte others

-- a label is any text of 1 to 255 bytes
abbrev pub IsLabel : List ℕ → Type 0
IsLabel text = (1 ≤ length text) × (length text ≤ WORD_BYTES)

-- the words that no name or variable may have
abbrev pub is_reserved : List ℕ → Bool
is_reserved word =
    bytes_eq word (codes "select") || (bytes_eq word (codes "from") || (bytes_eq word (codes "where")
    || (bytes_eq word (codes "and") || (bytes_eq word (codes "or") || (bytes_eq word (codes "not")
    || (bytes_eq word (codes "exists") || (bytes_eq word (codes "for") || (bytes_eq word (codes "all")
    || (bytes_eq word (codes "in") || (bytes_eq word (codes "like") || (bytes_eq word (codes "true")
    || bytes_eq word (codes "false"))))))))))))

-- a name is an identifier of at most 255 bytes that isn't reserved
pub record IsName (name : List ℕ) : Type 0 where
  pub identifier : IsIdentifier name
  pub unreserved : is_reserved name ≡ false
  pub sized : length name ≤ WORD_BYTES
