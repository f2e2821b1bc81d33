-- The condition of a select over places, and its paths.
use Rattle.std.specs.Prelude.{ℕ, suc, List, [], ◌∷◌, Option, option_map}
use Rattle.lorel_trees.specs.Trees.{CondTree, CondTrees, OperandTree, SelectTree}
use Rattle.lorel_trees.specs.Trees as t
use Rattle.lorel_ranges.specs.Places.{quantified, Place, Scope, place_of, scope_of}
use Rattle.lorel_bound.specs.Conditions.{OperandOf, constant, at, CondOf, or, and, not, exists, for_all, compare, same, CondsOf, no_cond, cond, paths_in}

abbrev pub operand_in : Scope → OperandTree → OperandOf Place
operand_in scope (t.constant value) = constant value
operand_in scope (t.at path) = at (place_of scope path)

-- the condition of the text over places, where these variables are in scope and so many quantifiers enclose it. The
-- variable of a quantifier is in scope in its body
abbrev mutual
  pub cond_in : Scope → ℕ → CondTree → CondOf Place
  cond_in scope depth (t.or members) = or (conds_in scope depth members)
  cond_in scope depth (t.and members) = and (conds_in scope depth members)
  cond_in scope depth (t.not body) = not (cond_in scope depth body)
  cond_in scope depth (t.exists variable path body) =
      exists (place_of scope path) (cond_in ((variable, quantified depth) ∷ scope) (suc depth) body)
  cond_in scope depth (t.for_all variable path body) =
      for_all (place_of scope path) (cond_in ((variable, quantified depth) ∷ scope) (suc depth) body)
  cond_in scope depth (t.compare left op right) = compare (operand_in scope left) op (operand_in scope right)
  cond_in scope depth (t.same left right) = same (place_of scope left) (place_of scope right)

  pub conds_in : Scope → ℕ → CondTrees → CondsOf Place
  conds_in scope depth t.no_cond = no_cond
  conds_in scope depth (t.cond first others) = cond (cond_in scope depth first) (conds_in scope depth others)

-- the condition of a select, which may have none
abbrev pub cond_of : SelectTree → Option (CondOf Place)
cond_of query = option_map (cond_in (scope_of [] query.tail.ranges) 0) query.tail.cond

-- the paths of the condition of a select
abbrev pub cond_places : SelectTree → List Place
cond_places query = paths_in (cond_of query)
