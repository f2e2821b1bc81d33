-- Values and literals of the grammar: for each derivation its tokens with those that follow, its tree, and
-- how deep it nests: how many braces enclose its innermost place.
use Rattle.std.specs.Prelude.{ℕ, ◌+◌, max, Bool, true, false, if◌then◌else◌, List, ◌∷◌, codes, Option, Some, None, option_map}
use Rattle.std.specs.Option.{is_some}
use Rattle.std.specs.Str.{bytes_eq}
use Rattle.lore_base.specs.Comparisons.{flag_text}
use Rattle.lorel_trees.specs.Types.{Value, Whole, Chars, Flag, Complex, Kind}
use Rattle.lorel_tokens.specs.declared.token_types.Kind.TheVariants as k
use Rattle.lorel_tokens.specs.declared.token_types.Sign.TheVariants as s
use Rattle.lorel_trees.specs.Trees as t
use Rattle.lorel_trees.specs.Grammar as g
use Rattle.lorel_trees.specs.Paths.{spell_label, text_of_label}

-- the one token of an atom; that of a flag is a reserved word, so no path begins with it
abbrev pub atom_kind : g.Atom → Kind
atom_kind (g.number value) = k.Number value
atom_kind (g.chars text) = k.Chars text
atom_kind (g.flag holds) = k.Word (flag_text holds)

abbrev pub spell_atom : g.Atom → List Kind → List Kind
spell_atom atom rest = atom_kind atom ∷ rest

abbrev pub value_of_atom : g.Atom → Value
value_of_atom (g.number value) = Whole value
value_of_atom (g.chars text) = Chars text
value_of_atom (g.flag holds) = Flag holds

-- the flag that a word writes
abbrev pub flag_of : List ℕ → Option Bool
flag_of word =
    if bytes_eq word (codes "true") then Some true
    else (if bytes_eq word (codes "false") then Some false else None)

-- the atom that a token is, if it is one
abbrev pub atom_of : Kind → Option g.Atom
atom_of (k.Number value) = Some (g.number value)
atom_of (k.Chars text) = Some (g.chars text)
atom_of (k.Word word) = option_map g.flag (flag_of word)
atom_of _ = None

abbrev pub is_atom_kind : Kind → Bool
is_atom_kind kind = is_some (atom_of kind)

-- ( atom | "{" "}" )
abbrev pub spell_value : Value → List Kind → List Kind
spell_value (Whole number) rest = spell_atom (g.number number) rest
spell_value (Chars text) rest = spell_atom (g.chars text) rest
spell_value (Flag holds) rest = spell_atom (g.flag holds) rest
spell_value Complex rest = k.Symbol s.LeftBrace ∷ k.Symbol s.RightBrace ∷ rest

-- [ local ]
abbrev pub spell_mark : Option ℕ → List Kind → List Kind
spell_mark None rest = rest
spell_mark (Some id) rest = k.Local id ∷ rest

abbrev mutual
  pub spell_literal : g.Literal → List Kind → List Kind
  spell_literal (g.local id) rest = k.Local id ∷ rest
  spell_literal (g.atom mark value) rest = spell_mark mark (spell_atom value rest)
  spell_literal (g.braces mark inner) rest =
      spell_mark mark (k.Symbol s.LeftBrace ∷ spell_members inner (k.Symbol s.RightBrace ∷ rest))

  pub spell_members : g.Members → List Kind → List Kind
  spell_members g.no_members rest = rest
  spell_members (g.members first others) rest = spell_member first (spell_more_members others rest)

  pub spell_more_members : g.MoreMembers → List Kind → List Kind
  spell_more_members g.no_more rest = rest
  spell_more_members (g.comma first others) rest =
      k.Symbol s.Comma ∷ spell_member first (spell_more_members others rest)

  pub spell_member : g.Member → List Kind → List Kind
  spell_member (g.member name literal) rest = spell_label name (spell_literal literal rest)

abbrev mutual
  pub tree_literal : g.Literal → t.LiteralTree
  tree_literal (g.local id) = t.local id
  tree_literal (g.atom mark value) = t.atom mark (value_of_atom value)
  tree_literal (g.braces mark inner) = t.node mark (trees_members inner)

  pub trees_members : g.Members → t.MemberTrees
  trees_members g.no_members = t.none
  trees_members (g.members first others) = tree_member first (trees_more_members others)

  pub trees_more_members : g.MoreMembers → t.MemberTrees
  trees_more_members g.no_more = t.none
  trees_more_members (g.comma first others) = tree_member first (trees_more_members others)

  -- with the members behind it
  pub tree_member : g.Member → t.MemberTrees → t.MemberTrees
  tree_member (g.member name literal) others = t.more (text_of_label name) (tree_literal literal) others

-- `{}` is a level too
abbrev mutual
  pub nest_literal : g.Literal → ℕ
  nest_literal (g.local id) = 0
  nest_literal (g.atom mark value) = 0
  nest_literal (g.braces mark inner) = nest_members inner + 1

  pub nest_members : g.Members → ℕ
  nest_members g.no_members = 0
  nest_members (g.members first others) = max (nest_member first) (nest_more_members others)

  pub nest_more_members : g.MoreMembers → ℕ
  nest_more_members g.no_more = 0
  nest_more_members (g.comma first others) = max (nest_member first) (nest_more_members others)

  pub nest_member : g.Member → ℕ
  nest_member (g.member name literal) = nest_literal literal
