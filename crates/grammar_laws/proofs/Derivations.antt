-- Short forms for the derivations of worked statements.
use Rattle.std.proofs.Common.{◌≡◌, ℕ, Bool, false, List, [], ◌∷◌, codes, pos, neg_ℤ, Option, None}
use Prim.Native.String.{String}
use Rattle.lore_base.specs.Names.{is_reserved}
use Rattle.lorel_trees.specs.Grammar as g

-- names and labels
abbrev pub name : (text : String) → is_reserved (codes text) ≡ false → g.Name
name text unreserved = g.free (codes text) unreserved

abbrev pub label : String → g.Label
label text = g.word (codes text)

abbrev pub quoted : String → g.Label
quoted text = g.quoted (codes text)

-- paths
abbrev pub step : String → g.Part
step text = g.once (g.label (label text))

abbrev pub parts_of : List g.Part → g.Parts
parts_of [] = g.no_parts
parts_of (first ∷ others) = g.part first (parts_of others)

abbrev pub sequence : g.Part → List g.Part → g.Seq
sequence first others = g.sequence first (parts_of others)

abbrev pub choices_of : List g.Seq → g.Choices
choices_of [] = g.no_choices
choices_of (first ∷ others) = g.bar first (choices_of others)

abbrev pub choice : g.Seq → List g.Seq → g.Alt
choice first others = g.choice first (choices_of others)

abbrev pub path : (start : String) → is_reserved (codes start) ≡ false → List g.Part → g.Path
path start unreserved parts = g.rooted (name start unreserved) (parts_of parts)

-- atoms and literals
abbrev pub number : ℕ → g.Atom
number is = g.number (pos is)

abbrev pub negative : ℕ → g.Atom
negative is = g.number (neg_ℤ (pos is))

abbrev pub text : String → g.Atom
text is = g.chars (codes is)

abbrev pub flag : Bool → g.Atom
flag holds = g.flag holds

abbrev more_members_of : List g.Member → g.MoreMembers
more_members_of [] = g.no_more
more_members_of (first ∷ others) = g.comma first (more_members_of others)

abbrev members_of : List g.Member → g.Members
members_of [] = g.no_members
members_of (first ∷ others) = g.members first (more_members_of others)

abbrev pub braces : Option ℕ → List g.Member → g.Literal
braces mark members = g.braces mark (members_of members)

-- one condition, and no tail
abbrev pub only : g.Unary → g.Cond
only one = g.conjs (g.unaries one g.no_unaries) g.no_conjs

abbrev pub no_tail : g.Tail
no_tail = g.tail [] None
