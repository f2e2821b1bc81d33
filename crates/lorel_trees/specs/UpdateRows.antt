-- The select that gives an update its rows.
use Rattle.std.specs.Prelude.{[], ◌∷◌, Option, Some, None}
use Rattle.lorel_trees.specs.Trees.{RootedTree, TailTree, SelectTree, StatementTree, object, assign, add_new, add_link, remove}

-- the select of an update's target, and the one of its target and its right side
abbrev pub target_select : RootedTree → TailTree → SelectTree
target_select target tail = record { items = object target ∷ []; tail = tail }

abbrev pub pair_select : RootedTree → RootedTree → TailTree → SelectTree
pair_select target right tail = record { items = object target ∷ object right ∷ []; tail = tail }

-- the select that gives an update its rows, and nothing for any other statement
abbrev pub rows_of : StatementTree → Option SelectTree
rows_of (assign target value tail) = Some (target_select target tail)
rows_of (add_new target label literal tail) = Some (target_select target tail)
rows_of (add_link target label right tail) = Some (pair_select target right tail)
rows_of (remove target label right tail) = Some (pair_select target right tail)
rows_of _ = None
