-- Conditions as they are read.
use Rattle.std.specs.Prelude.{ℕ, zero, suc, if◌then◌else◌, List, [], ◌∷◌, ◌++◌, length}
use Rattle.std.specs.Prelude.{codes, Option, Some, None}
use Rattle.lorel_terms.specs.Types.{Op, Eq, Ne, Lt, Le, Gt, Ge, Like, Kind, Sign}
use Rattle.lorel_tokens.specs.declared.token_types.Kind.TheVariants as k
use Rattle.lorel_tokens.specs.declared.token_types.Sign.TheVariants as s
use Rattle.lorel_trees.specs.Trees.{RootedTree, OperandTree, constant, at, CondTree, CondTrees, or, and, not}
use Rattle.lorel_trees.specs.Trees.{exists, for_all, compare, same, conds_from}
use Rattle.lorel_terms.specs.Outcomes.{Parse, and_then, next, sees, sees_word, expect}
use Rattle.lorel_terms.specs.Outcomes.{expect_word, refuse, token}
use Rattle.lorel_terms.specs.Names.{name, sees_atom, atom}
use Rattle.lorel_terms.specs.Paths.{rooted}

abbrev pub sign_op : Sign → Option Op
sign_op s.Equal = Some Eq
sign_op s.NotEqual = Some Ne
sign_op s.Less = Some Lt
sign_op s.LessEqual = Some Le
sign_op s.Greater = Some Gt
sign_op s.GreaterEqual = Some Ge
sign_op _ = None

abbrev pub op_of : Kind → Option Op
op_of (k.Symbol sign) = sign_op sign
op_of _ = None

unfoldable pub op : Parse Op
op kinds = if sees_word (codes "like") kinds then Some (Like, next kinds) else token op_of kinds

-- an atom or a path, whose groups nest so deep at most
unfoldable pub operand : ℕ → Parse OperandTree
operand depth kinds =
    if sees_atom kinds then and_then (atom kinds) (λ value rest. Some (constant value, rest))
    else and_then (rooted depth kinds) (λ path rest. Some (at path, rest))

-- an operator and the right side
unfoldable pub compared : ℕ → OperandTree → Parse CondTree
compared depth left kinds = and_then (op kinds) (λ by rest.
    and_then (operand depth rest) (λ right behind. Some (compare left by right, behind)))

-- `==` and a path, behind a path
unfoldable pub same_as : ℕ → RootedTree → Parse CondTree
same_as depth left kinds = and_then (rooted depth kinds) (λ right rest. Some (same left right, rest))

-- what may stand behind the left side
unfoldable pub behind_left : ℕ → OperandTree → Parse CondTree
behind_left depth (constant value) kinds = compared depth (constant value) kinds
behind_left depth (at path) kinds =
    if sees s.SameAs kinds then same_as depth path (next kinds) else compared depth (at path) kinds

unfoldable pub comparison : ℕ → Parse CondTree
comparison depth kinds = and_then (operand depth kinds) (behind_left depth)

-- over the word that stands between the items of a list, and a parser of items
module _ (word : List ℕ) (item : Parse CondTree) where
  -- each item behind its word, in so many turns, after those found before
  unfoldable pub others_from : ℕ → List CondTree → Parse (List CondTree)
  others_from zero before kinds = Some (before, kinds)
  others_from (suc turns) before kinds =
      if sees_word word kinds then
      and_then (item (next kinds)) (λ one rest. others_from turns (before ++ one ∷ []) rest)
      else Some (before, kinds)

  unfoldable pub others : List CondTree → Parse (List CondTree)
  others before kinds = others_from (length kinds) before kinds

  -- one item is itself, and two or more are joined
  unfoldable pub list : (CondTrees → CondTree) → Parse CondTree
  list join kinds = and_then (item kinds) (λ first rest.
      if sees_word word rest then and_then (item (next rest)) (λ second behind.
      and_then (others (first ∷ second ∷ []) behind) (λ all end. Some (join (conds_from all), end)))
      else Some (first, rest))

-- over a parser of single conditions: those joined by `and`, and those joined by `or`
abbrev pub conj : Parse CondTree → Parse CondTree
conj unary = list (codes "and") unary and

abbrev pub cond : Parse CondTree → Parse CondTree
cond unary = list (codes "or") (conj unary) or

-- a path that a level encloses, where so many levels are left
unfoldable pub enclosed_path : ℕ → Parse RootedTree
enclosed_path zero = refuse
enclosed_path (suc depth) = rooted depth

-- up to the closing parenthesis
abbrev pub closed : CondTree → Parse CondTree
closed inner kinds = and_then (expect s.RightParen kinds) (λ _ rest. Some (inner, rest))

-- over the levels that are left, and a parser of single conditions that a level encloses
module _ (depth : ℕ) (body : Parse CondTree) where
  -- what stands behind `exists` or `for all`
  unfoldable pub quantified : Parse (List ℕ × RootedTree × CondTree)
  quantified kinds = and_then (name kinds) (λ variable a. and_then (expect_word (codes "in") a) (λ _ b.
      and_then (enclosed_path depth b) (λ path c. and_then (expect s.Colon c) (λ _ d.
      and_then (body d) (λ holds e. Some ((variable, path, holds), e))))))

  unfoldable pub unary_by : Parse CondTree
  unary_by kinds =
      if sees_word (codes "not") kinds then
      and_then (body (next kinds)) (λ inner rest. Some (not inner, rest))
      else (if sees s.LeftParen kinds then and_then (cond body (next kinds)) closed
      else (if sees_word (codes "exists") kinds then
      and_then (quantified (next kinds)) (λ q rest. Some (exists q.0 q.1 q.2, rest))
      else (if sees_word (codes "for") kinds then and_then (expect_word (codes "all") (next kinds)) (λ _ rest.
      and_then (quantified rest) (λ q behind. Some (for_all q.0 q.1 q.2, behind)))
      else comparison depth kinds)))

-- a single condition that a level encloses, where so many levels are left
unfoldable pub enclosed : ℕ → Parse CondTree
enclosed zero = refuse
enclosed (suc depth) = unary_by depth (enclosed depth)

-- a single condition that nests so deep at most
abbrev pub unary : ℕ → Parse CondTree
unary depth = unary_by depth (enclosed depth)

-- a condition that nests so deep at most
unfoldable pub condition : ℕ → Parse CondTree
condition depth = cond (unary depth)
