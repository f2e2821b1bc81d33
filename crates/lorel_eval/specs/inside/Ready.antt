-- Conditions whose paths are made ready, as the plain data of the conditions that they were made of.
use Rattle.std.specs.Prelude.{List}
use Rattle.lore_base.specs.Paths.{path_tree}
use Rattle.lorel_bound.specs.Conditions.{OperandOf, constant, at, CondOf, or, and, not, exists, for_all, compare, same}
use Rattle.lorel_eval.specs.inside.Labelled.{LabelledPath, in_order}
use Rattle.lorel_eval.specs.declared.ready_conds.ReadyPath.{ReadyPath}
use Rattle.lorel_eval.specs.declared.ready_conds.ReadyOperand.{ReadyOperand}
use Rattle.lorel_eval.specs.declared.ready_conds.ReadyOperand.TheVariants as o
use Rattle.lorel_eval.specs.declared.ready_conds.ReadyCond.{ReadyCond, fold-ReadyCond}
use Rattle.lorel_eval.specs.declared.ready_conds.ReadyCond.TheOpen.{ReadyCond-F, ReadyCondList-F, Or, And, Not, Exists, ForAll, Compare, Same}
use Rattle.lorel_eval.specs.declared.ready_conds.ReadyCond.TheFolds.{fold-ReadyCondList}
use Rattle.lorel_eval.specs.declared.ready_conds.ReadyCond.TheViews.{out-ReadyCondList}
use Rattle.lorel_eval.specs.declared.ready_conds.ReadyCondList.{ReadyCondList}

abbrev pub ready_path : ReadyPath → LabelledPath
ready_path path = record { labels = path.route.labels; start = path.start; rest = path_tree path.route.path }

abbrev pub ready_operand : ReadyOperand → OperandOf LabelledPath
ready_operand (o.Atom value) = constant value.now
ready_operand (o.At path) = at (ready_path path)

abbrev pub ready_step : ReadyCond-F (CondOf LabelledPath) (List (CondOf LabelledPath)) → CondOf LabelledPath
ready_step (Or members) = or (in_order members)
ready_step (And members) = and (in_order members)
ready_step (Not body) = not body.value
ready_step (Exists path body) = exists (ready_path path) body.value
ready_step (ForAll path body) = for_all (ready_path path) body.value
ready_step (Compare left op right) = compare (ready_operand left) op (ready_operand right)
ready_step (Same left right) = same (ready_path left) (ready_path right)

abbrev pub ready_list_step : ReadyCondList-F (CondOf LabelledPath) (List (CondOf LabelledPath)) → List (CondOf LabelledPath)
ready_list_step list = list.items.items

abbrev pub ready_tree : ReadyCond → CondOf LabelledPath
ready_tree = fold-ReadyCond (CondOf LabelledPath) (List (CondOf LabelledPath)) ready_step ready_list_step

abbrev pub ready_trees : ReadyCondList → List (CondOf LabelledPath)
ready_trees = fold-ReadyCondList (CondOf LabelledPath) (List (CondOf LabelledPath)) ready_step ready_list_step

-- the conditions of a list, in order
abbrev pub ready_conds_of : ReadyCondList → List ReadyCond
ready_conds_of list = (out-ReadyCondList list).items.items
