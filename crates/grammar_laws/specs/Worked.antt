-- Short forms for the tokens and trees of worked statements.
use Rattle.std.specs.Prelude.{ℕ, Bool, List, [], codes, pos, neg_ℤ, Some, None}
use Prim.Native.String.{String}
use Rattle.lorel_trees.specs.Types.{Value, Whole, Chars, Flag, Plain, Wild, Kind, Sign}
use Rattle.lore_base.specs.Paths as p
use Rattle.lorel_tokens.specs.declared.token_types.Kind.TheVariants as k
use Rattle.lorel_trees.specs.Trees.{RootedTree, CondTree, FromTree, TailTree, ItemTree, SelectTree}

-- tokens
abbrev pub word : String → Kind
word is = k.Word (codes is)

abbrev pub sign : Sign → Kind
sign is = k.Symbol is

abbrev pub number : ℕ → Kind
number is = k.Number (pos is)

abbrev pub negative : ℕ → Kind
negative is = k.Number (neg_ℤ (pos is))

abbrev pub text : String → Kind
text is = k.Chars (codes is)

abbrev pub quoted : String → Kind
quoted is = k.Quoted (codes is)

abbrev pub wild : String → Kind
wild is = k.Wild (codes is)

-- paths
abbrev pub step : String → p.PathTree
step label = p.step (Plain (codes label))

abbrev pub matching : String → p.PathTree
matching pattern = p.step (Wild (codes pattern))

abbrev pub sequence : List p.PathTree → p.PathTree
sequence parts = p.seq (p.trees_of parts)

abbrev pub choice : List p.PathTree → p.PathTree
choice parts = p.alt (p.trees_of parts)

abbrev pub path : String → List p.PathTree → RootedTree
path start parts = record { start = codes start; parts = parts }

-- values
abbrev pub whole : ℕ → Value
whole is = Whole (pos is)

abbrev pub minus : ℕ → Value
minus is = Whole (neg_ℤ (pos is))

abbrev pub chars : String → Value
chars is = Chars (codes is)

abbrev pub flag : Bool → Value
flag holds = Flag holds

-- a from item without a variable, and one with an object variable
abbrev pub along : RootedTree → FromTree
along walked = record { path = walked; word = None; variable = None }

abbrev pub ranging : RootedTree → String → FromTree
ranging walked variable = record { path = walked; word = None; variable = Some (codes variable) }

-- selects
abbrev pub no_tail : TailTree
no_tail = record { ranges = []; cond = None }

abbrev pub such_that : CondTree → TailTree
such_that cond = record { ranges = []; cond = Some cond }

abbrev pub query : List ItemTree → TailTree → SelectTree
query items tail = record { items = items; tail = tail }
