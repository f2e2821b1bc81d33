-- Bound selects as plain data: ranges that start at objects and slots, the cells of a row, and the condition.
use Rattle.std.specs.Prelude.{List, [], ◌∷◌, map, Option, option_map}
use Rattle.lorel_bound.specs.Types.{Start, BoundStart, CellOf}
use Rattle.lore_base.specs.Paths.{PathTree, path_tree}
use Rattle.lorel_bound.specs.Conditions.{OperandOf, constant, at, CondOf, or, and, not, exists, for_all, compare, same, CondsOf, no_cond, cond}
use Rattle.lorel_bound.specs.declared.bound.Range.{Range}
use Rattle.lorel_bound.specs.declared.conditions.BoundPath.{BoundPath}
use Rattle.lorel_bound.specs.declared.conditions.BoundOperand.{BoundOperand}
use Rattle.lorel_bound.specs.declared.conditions.BoundOperand.TheVariants as o
use Rattle.lorel_bound.specs.declared.conditions.BoundCond.{BoundCond, fold-BoundCond}
use Rattle.lorel_bound.specs.declared.conditions.BoundCond.TheOpen.{BoundCond-F, BoundCondList-F, Or, And, Not, Exists, ForAll, Compare, Same}
use Rattle.lorel_bound.specs.declared.conditions.BoundCond.TheFolds.{fold-BoundCondList}
use Rattle.lorel_bound.specs.declared.conditions.BoundCond.TheViews.{out-BoundCondList}
use Rattle.lorel_bound.specs.declared.conditions.BoundCondList.{BoundCondList}
use Rattle.lorel_bound.specs.declared.bound.Bound.{Bound}

-- a range: its start, and the path that leads on from there
pub record RangeTree : Type 0 where
  pub start : Start
  pub path : PathTree

-- a path of a condition: what is fixed of it, and the rest
pub record BoundPathTree : Type 0 where
  pub start : BoundStart
  pub rest : PathTree

-- a bound select
pub record BoundTree : Type 0 where
  pub ranges : List RangeTree
  pub cells : List CellOf
  pub cond : Option (CondOf BoundPathTree)

-- The plain data of the program's bound selects.

abbrev pub range_tree : Range → RangeTree
range_tree range = record { start = range.start; path = path_tree range.path }

abbrev pub bound_path : BoundPath → BoundPathTree
bound_path path = record { start = path.start; rest = path_tree path.rest }

abbrev pub bound_operand : BoundOperand → OperandOf BoundPathTree
bound_operand (o.Atom value) = constant value
bound_operand (o.At path) = at (bound_path path)

abbrev pub conds_from : List (CondOf BoundPathTree) → CondsOf BoundPathTree
conds_from [] = no_cond
conds_from (first ∷ others) = cond first (conds_from others)

abbrev pub cond_step : BoundCond-F (CondOf BoundPathTree) (List (CondOf BoundPathTree)) → CondOf BoundPathTree
cond_step (Or members) = or (conds_from members)
cond_step (And members) = and (conds_from members)
cond_step (Not body) = not body.value
cond_step (Exists path body) = exists (bound_path path) body.value
cond_step (ForAll path body) = for_all (bound_path path) body.value
cond_step (Compare left op right) = compare (bound_operand left) op (bound_operand right)
cond_step (Same left right) = same (bound_path left) (bound_path right)

abbrev pub conds_step : BoundCondList-F (CondOf BoundPathTree) (List (CondOf BoundPathTree)) → List (CondOf BoundPathTree)
conds_step list = list.items.items

abbrev pub bound_cond : BoundCond → CondOf BoundPathTree
bound_cond = fold-BoundCond (CondOf BoundPathTree) (List (CondOf BoundPathTree)) cond_step conds_step

abbrev pub bound_conds : BoundCondList → List (CondOf BoundPathTree)
bound_conds = fold-BoundCondList (CondOf BoundPathTree) (List (CondOf BoundPathTree)) cond_step conds_step

-- the conditions of a list, in order
abbrev pub conds_of : BoundCondList → List BoundCond
conds_of list = (out-BoundCondList list).items.items

abbrev pub bound_tree : Bound → BoundTree
bound_tree bound = record {
  ranges = map range_tree bound.ranges;
  cells = bound.cells;
  cond = option_map bound_cond bound.cond;
}
