-- Conditions: one tree whose paths may be of any kind, and its paths.
use Rattle.std.specs.Prelude.{List, [], ◌∷◌, ◌++◌, Option, Some, None}
use Rattle.lorel_bound.specs.Types.{Value, Op}

pub data OperandOf (Path : Type 0) : Type 0 where
  constant : (value : Value) → OperandOf Path
  at : (path : Path) → OperandOf Path

-- a condition over paths of some kind
mutual
  pub data CondOf (Path : Type 0) : Type 0 where
    or : (members : CondsOf Path) → CondOf Path
    and : (members : CondsOf Path) → CondOf Path
    not : (body : CondOf Path) → CondOf Path
    exists : (path : Path) (body : CondOf Path) → CondOf Path
    for_all : (path : Path) (body : CondOf Path) → CondOf Path
    compare : (left : OperandOf Path) (op : Op) (right : OperandOf Path) → CondOf Path
    same : (left right : Path) → CondOf Path

  pub data CondsOf (Path : Type 0) : Type 0 where
    no_cond : CondsOf Path
    cond : (first : CondOf Path) (others : CondsOf Path) → CondsOf Path

abbrev pub operand_paths : {Path : Type 0} → OperandOf Path → List Path
operand_paths (constant value) = []
operand_paths (at path) = path ∷ []

-- the paths of a condition, in text order
abbrev mutual
  pub paths_of : {Path : Type 0} → CondOf Path → List Path
  paths_of (or members) = paths_of_all members
  paths_of (and members) = paths_of_all members
  paths_of (not body) = paths_of body
  paths_of (exists path body) = path ∷ paths_of body
  paths_of (for_all path body) = path ∷ paths_of body
  paths_of (compare left op right) = operand_paths left ++ operand_paths right
  paths_of (same left right) = left ∷ right ∷ []

  pub paths_of_all : {Path : Type 0} → CondsOf Path → List Path
  paths_of_all no_cond = []
  paths_of_all (cond first others) = paths_of first ++ paths_of_all others

-- those of a condition that may be missing
abbrev pub paths_in : {Path : Type 0} → Option (CondOf Path) → List Path
paths_in None = []
paths_in (Some condition) = paths_of condition
