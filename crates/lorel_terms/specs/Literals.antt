-- Locals, new values and literals as they are read.
use Rattle.std.specs.Prelude.{ℕ, zero, suc, Bool, true, false, ◌||◌, if◌then◌else◌, List, [], ◌∷◌, Option, Some, None}
use Rattle.lore_base.specs.declared.values.Value.{Value}
use Rattle.lore_base.specs.declared.values.Value.TheVariants.{Complex}
use Rattle.lorel_tokens.specs.declared.token_types.Kind.{Kind}
use Rattle.lorel_tokens.specs.declared.token_types.Kind.TheVariants as k
use Rattle.lorel_tokens.specs.declared.token_types.Sign.TheVariants as s
use Rattle.lorel_trees.specs.Trees as t
use Rattle.lorel_trees.specs.Trees.{LiteralTree, members_from}
use Rattle.lorel_terms.specs.Outcomes.{Parse, and_then, next, is_next, token, sees, expect, refuse}
use Rattle.lorel_terms.specs.Names.{label, sees_atom, atom}
use Rattle.lorel_terms.specs.Repetitions.{both, each}

-- a label with its literal
abbrev pub Entry : Type 0
Entry = List ℕ × LiteralTree

abbrev pub local_of : Kind → Option ℕ
local_of (k.Local id) = Some id
local_of _ = None

abbrev pub is_local : Kind → Bool
is_local (k.Local id) = true
is_local _ = false

-- the number of a local
unfoldable pub local : Parse ℕ
local = token local_of

-- a local stands there
unfoldable pub sees_local : List Kind → Bool
sees_local = is_next is_local

-- an opening brace or an atom stands there
unfoldable pub sees_value : List Kind → Bool
sees_value kinds = sees s.LeftBrace kinds || sees_atom kinds

-- an atom, or `{ }`
unfoldable pub new_value : Parse Value
new_value kinds =
    if sees s.LeftBrace kinds then and_then (expect s.RightBrace (next kinds)) (λ _ rest. Some (Complex, rest))
    else atom kinds

-- over a parser of what stands behind an opening brace, up to the closing one
module _ (inside : Parse (List Entry)) where
  -- an atom or braces, with the mark that stands before
  unfoldable pub valued : Option ℕ → Parse LiteralTree
  valued mark kinds =
      if sees s.LeftBrace kinds then
      and_then (inside (next kinds)) (λ members rest. Some (t.node mark (members_from members), rest))
      else and_then (atom kinds) (λ value rest. Some (t.atom mark value, rest))

  -- a local is a mark where a value stands behind it
  unfoldable pub literal : Parse LiteralTree
  literal kinds =
      if sees_local kinds then and_then (local kinds) (λ id rest.
      if sees_value rest then valued (Some id) rest else Some (t.local id, rest))
      else valued None kinds

  unfoldable pub member : Parse Entry
  member = both label literal

  -- each member behind its comma
  unfoldable pub more_members : List Entry → Parse (List Entry)
  more_members = each (sees s.Comma) member

  -- members up to the closing brace
  unfoldable pub members : Parse (List Entry)
  members kinds =
      if sees s.RightBrace kinds then Some ([], next kinds)
      else and_then (member kinds) (λ first rest. and_then (more_members (first ∷ []) rest) (λ all behind.
      and_then (expect s.RightBrace behind) (λ _ end. Some (all, end))))

-- what stands behind an opening brace, where so many levels are left
unfoldable pub inside : ℕ → Parse (List Entry)
inside zero = refuse
inside (suc depth) = members (inside depth)
