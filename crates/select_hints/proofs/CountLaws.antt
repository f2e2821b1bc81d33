-- The leaves of the paths of a condition are those that are counted.
use Rattle.std.proofs.Common.{◌≡◌, ℕ, ◌+◌, List, [], ◌∷◌, refl, arith}
use Rattle.std.specs.List.{sum_by}
use Rattle.std.proofs.lemmas.List.Sums.{sum_by-append, sum_by-cons}
use Rattle.lore_base.specs.Paths.{leaves}
use Rattle.lorel_bound.specs.Bound.{BoundPathTree}
use Rattle.lorel_bound.specs.Conditions.{OperandOf, constant, at, CondOf, or, and, not, exists, for_all, compare, same, CondsOf, no_cond, cond, operand_paths, paths_of, paths_of_all}
use Rattle.select_hints.specs.inside.Counts.{operand_leaves, cond_leaves, conds_leaves}

abbrev rests : List BoundPathTree → ℕ
rests paths = sum_by (λ path. leaves path.rest) paths

operand_counted : (operand : OperandOf BoundPathTree) → rests (operand_paths operand) ≡ operand_leaves operand
operand_counted (constant value) = refl
operand_counted (at path) = let one = sum_by-cons (λ (own : BoundPathTree). leaves own.rest) path [] in omega (arith, one)

mutual
  pub counted : (condition : CondOf BoundPathTree) → rests (paths_of condition) ≡ cond_leaves condition
  counted (or members) = all_counted members
  counted (and members) = all_counted members
  counted (not body) = counted body
  counted (exists path body) =
      let one = sum_by-cons (λ (own : BoundPathTree). leaves own.rest) path (paths_of body) in
      let others = counted body in omega (arith, one, others)
  counted (for_all path body) =
      let one = sum_by-cons (λ (own : BoundPathTree). leaves own.rest) path (paths_of body) in
      let others = counted body in omega (arith, one, others)
  counted (compare left op right) =
      let both = sum_by-append (λ (own : BoundPathTree). leaves own.rest) (operand_paths left) (operand_paths right) in
      let first = operand_counted left in
      let second = operand_counted right in omega (arith, both, first, second)
  counted (same left right) =
      let both = sum_by-cons (λ (own : BoundPathTree). leaves own.rest) left (right ∷ []) in
      let last = sum_by-cons (λ (own : BoundPathTree). leaves own.rest) right [] in omega (arith, both, last)

  all_counted : (members : CondsOf BoundPathTree) → rests (paths_of_all members) ≡ conds_leaves members
  all_counted no_cond = refl
  all_counted (cond first others) =
      let both = sum_by-append (λ (own : BoundPathTree). leaves own.rest) (paths_of first) (paths_of_all others) in
      let one = counted first in
      let more = all_counted others in omega (arith, both, one, more)
