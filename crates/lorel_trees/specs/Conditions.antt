-- Conditions of the grammar: for each derivation its tokens with those that follow, its tree, and how deep it
-- nests: how many `not`s, parentheses, quantifiers and groups of paths enclose its innermost place.
use Rattle.std.specs.Prelude.{ℕ, ◌+◌, max, List, ◌∷◌, codes}
use Rattle.lorel_trees.specs.Types.{Op, Eq, Ne, Lt, Le, Gt, Ge, Like, Kind}
use Rattle.lorel_tokens.specs.declared.token_types.Kind.TheVariants as k
use Rattle.lorel_tokens.specs.declared.token_types.Sign.TheVariants as s
use Rattle.lorel_trees.specs.Trees as t
use Rattle.lorel_trees.specs.Grammar as g
use Rattle.lorel_trees.specs.Paths.{spell_name, text_of_name, spell_path, tree_path, nest_path}
use Rattle.lorel_trees.specs.Literals.{spell_atom, value_of_atom}

-- comparisons

abbrev pub spell_op : Op → List Kind → List Kind
spell_op Eq rest = k.Symbol s.Equal ∷ rest
spell_op Ne rest = k.Symbol s.NotEqual ∷ rest
spell_op Lt rest = k.Symbol s.Less ∷ rest
spell_op Le rest = k.Symbol s.LessEqual ∷ rest
spell_op Gt rest = k.Symbol s.Greater ∷ rest
spell_op Ge rest = k.Symbol s.GreaterEqual ∷ rest
spell_op Like rest = k.Word (codes "like") ∷ rest

abbrev pub spell_operand : g.Operand → List Kind → List Kind
spell_operand (g.constant value) rest = spell_atom value rest
spell_operand (g.reached path) rest = spell_path path rest

abbrev pub tree_operand : g.Operand → t.OperandTree
tree_operand (g.constant value) = t.constant (value_of_atom value)
tree_operand (g.reached path) = t.at (tree_path path)

abbrev pub nest_operand : g.Operand → ℕ
nest_operand (g.constant value) = 0
nest_operand (g.reached path) = nest_path path

-- conditions

abbrev mutual
  pub spell_cond : g.Cond → List Kind → List Kind
  spell_cond (g.conjs first others) rest = spell_conj first (spell_more_conjs others rest)

  pub spell_more_conjs : g.MoreConjs → List Kind → List Kind
  spell_more_conjs g.no_conjs rest = rest
  spell_more_conjs (g.or first others) rest =
      k.Word (codes "or") ∷ spell_conj first (spell_more_conjs others rest)

  pub spell_conj : g.Conj → List Kind → List Kind
  spell_conj (g.unaries first others) rest = spell_unary first (spell_more_unaries others rest)

  pub spell_more_unaries : g.MoreUnaries → List Kind → List Kind
  spell_more_unaries g.no_unaries rest = rest
  spell_more_unaries (g.and first others) rest =
      k.Word (codes "and") ∷ spell_unary first (spell_more_unaries others rest)

  pub spell_unary : g.Unary → List Kind → List Kind
  spell_unary (g.not body) rest = k.Word (codes "not") ∷ spell_unary body rest
  spell_unary (g.parens inner) rest = k.Symbol s.LeftParen ∷ spell_cond inner (k.Symbol s.RightParen ∷ rest)
  spell_unary (g.exists name path body) rest =
      k.Word (codes "exists")
      ∷ spell_name name (k.Word (codes "in") ∷ spell_path path (k.Symbol s.Colon ∷ spell_unary body rest))
  spell_unary (g.for_all name path body) rest =
      k.Word (codes "for") ∷ k.Word (codes "all")
      ∷ spell_name name (k.Word (codes "in") ∷ spell_path path (k.Symbol s.Colon ∷ spell_unary body rest))
  spell_unary (g.compare left by right) rest = spell_operand left (spell_op by (spell_operand right rest))
  spell_unary (g.same left right) rest = spell_path left (k.Symbol s.SameAs ∷ spell_path right rest)

-- one condition is itself, and two or more are joined
abbrev pub joined : (t.CondTrees → t.CondTree) → t.CondTree → t.CondTrees → t.CondTree
joined join first t.no_cond = first
joined join first (t.cond second others) = join (t.cond first (t.cond second others))

-- parentheses leave no trace
abbrev mutual
  pub tree_cond : g.Cond → t.CondTree
  tree_cond (g.conjs first others) = joined t.or (tree_conj first) (trees_more_conjs others)

  pub trees_more_conjs : g.MoreConjs → t.CondTrees
  trees_more_conjs g.no_conjs = t.no_cond
  trees_more_conjs (g.or first others) = t.cond (tree_conj first) (trees_more_conjs others)

  pub tree_conj : g.Conj → t.CondTree
  tree_conj (g.unaries first others) = joined t.and (tree_unary first) (trees_more_unaries others)

  pub trees_more_unaries : g.MoreUnaries → t.CondTrees
  trees_more_unaries g.no_unaries = t.no_cond
  trees_more_unaries (g.and first others) = t.cond (tree_unary first) (trees_more_unaries others)

  pub tree_unary : g.Unary → t.CondTree
  tree_unary (g.not body) = t.not (tree_unary body)
  tree_unary (g.parens inner) = tree_cond inner
  tree_unary (g.exists name path body) = t.exists (text_of_name name) (tree_path path) (tree_unary body)
  tree_unary (g.for_all name path body) = t.for_all (text_of_name name) (tree_path path) (tree_unary body)
  tree_unary (g.compare left by right) = t.compare (tree_operand left) by (tree_operand right)
  tree_unary (g.same left right) = t.same (tree_path left) (tree_path right)

-- a quantifier encloses its path and its body
abbrev mutual
  pub nest_cond : g.Cond → ℕ
  nest_cond (g.conjs first others) = max (nest_conj first) (nest_more_conjs others)

  pub nest_more_conjs : g.MoreConjs → ℕ
  nest_more_conjs g.no_conjs = 0
  nest_more_conjs (g.or first others) = max (nest_conj first) (nest_more_conjs others)

  pub nest_conj : g.Conj → ℕ
  nest_conj (g.unaries first others) = max (nest_unary first) (nest_more_unaries others)

  pub nest_more_unaries : g.MoreUnaries → ℕ
  nest_more_unaries g.no_unaries = 0
  nest_more_unaries (g.and first others) = max (nest_unary first) (nest_more_unaries others)

  pub nest_unary : g.Unary → ℕ
  nest_unary (g.not body) = nest_unary body + 1
  nest_unary (g.parens inner) = nest_cond inner + 1
  nest_unary (g.exists name path body) = max (nest_path path) (nest_unary body) + 1
  nest_unary (g.for_all name path body) = max (nest_path path) (nest_unary body) + 1
  nest_unary (g.compare left by right) = max (nest_operand left) (nest_operand right)
  nest_unary (g.same left right) = max (nest_path left) (nest_path right)
