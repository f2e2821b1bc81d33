-- Conditions each of whose paths has the label texts beside it that it is read over.
use Rattle.std.specs.Prelude.{ℕ, List, [], ◌∷◌}
use Rattle.lore_base.specs.Paths.{PathTree}
use Rattle.lore_base.specs.declared.paths.Path.{Path}
use Rattle.lorel_bound.specs.Bound.{BoundPathTree}
use Rattle.lorel_bound.specs.Conditions.{OperandOf, constant, at, CondOf, or, and, not, exists, for_all, compare, same, CondsOf, no_cond, cond}
use Rattle.lorel_eval.specs.Types.{BoundStart}

-- a path over label texts
pub record RouteOver : Type 0 where
  pub labels : List (List ℕ)
  pub path : Path

-- and its plain data, with where it begins
pub record LabelledPath : Type 0 where
  pub labels : List (List ℕ)
  pub start : BoundStart
  pub rest : PathTree

abbrev pub labelled_path : List (List ℕ) → BoundPathTree → LabelledPath
labelled_path labels path = record { labels = labels; start = path.start; rest = path.rest }

abbrev pub labelled_operand : List (List ℕ) → OperandOf BoundPathTree → OperandOf LabelledPath
labelled_operand labels (constant value) = constant value
labelled_operand labels (at path) = at (labelled_path labels path)

-- a condition over these label texts
abbrev mutual
  pub labelled : List (List ℕ) → CondOf BoundPathTree → CondOf LabelledPath
  labelled labels (or members) = or (labelled_all labels members)
  labelled labels (and members) = and (labelled_all labels members)
  labelled labels (not body) = not (labelled labels body)
  labelled labels (exists path body) = exists (labelled_path labels path) (labelled labels body)
  labelled labels (for_all path body) = for_all (labelled_path labels path) (labelled labels body)
  labelled labels (compare left op right) = compare (labelled_operand labels left) op (labelled_operand labels right)
  labelled labels (same left right) = same (labelled_path labels left) (labelled_path labels right)

  pub labelled_all : List (List ℕ) → CondsOf BoundPathTree → CondsOf LabelledPath
  labelled_all labels no_cond = no_cond
  labelled_all labels (cond first others) = cond (labelled labels first) (labelled_all labels others)

-- the conditions of a list, in order
abbrev pub in_order : List (CondOf LabelledPath) → CondsOf LabelledPath
in_order [] = no_cond
in_order (first ∷ others) = cond first (in_order others)
