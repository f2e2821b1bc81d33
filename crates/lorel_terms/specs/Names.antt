-- Names, labels and atoms as they are read.
use Rattle.std.specs.Prelude.{ℕ, Bool, true, false, List, Option, Some, None, option_map, if◌then◌else◌}
use Rattle.lore_base.specs.Names.{is_reserved}
use Rattle.lorel_terms.specs.Types.{Value, Kind}
use Rattle.lorel_trees.specs.Literals.{value_of_atom, atom_of, is_atom_kind}
use Rattle.lorel_tokens.specs.declared.token_types.Kind.TheVariants as k
use Rattle.lorel_terms.specs.Outcomes.{Parse, is_next, token}

abbrev pub name_of : Kind → Option (List ℕ)
name_of (k.Word text) = if is_reserved text then None else Some text
name_of _ = None

abbrev pub is_name : Kind → Bool
is_name (k.Word text) = if is_reserved text then false else true
is_name _ = false

abbrev pub label_of : Kind → Option (List ℕ)
label_of (k.Word text) = Some text
label_of (k.Quoted text) = Some text
label_of _ = None

abbrev pub value_of : Kind → Option Value
value_of kind = option_map value_of_atom (atom_of kind)

-- an identifier that isn't reserved
unfoldable pub name : Parse (List ℕ)
name = token name_of

-- an identifier that isn't reserved stands there
unfoldable pub sees_name : List Kind → Bool
sees_name = is_next is_name

-- an identifier or a quoted label
unfoldable pub label : Parse (List ℕ)
label = token label_of

-- an atom stands there
unfoldable pub sees_atom : List Kind → Bool
sees_atom = is_next is_atom_kind

-- a number, a text or a flag
unfoldable pub atom : Parse Value
atom = token value_of
