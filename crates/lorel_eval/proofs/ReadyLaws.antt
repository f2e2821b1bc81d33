-- Conditions that are made ready as plain data, by their forms.
use Rattle.std.proofs.Common.{◌≡◌, List, sym, ap, ◌∙◌}
use Rattle.lorel_bound.specs.Conditions.{CondOf, or, and, exists, for_all, compare, same}
use Rattle.lorel_eval.specs.Types.{Op}
use Rattle.lorel_eval.specs.inside.Labelled.{LabelledPath, in_order}
use Rattle.lorel_eval.specs.inside.Ready.{ready_path, ready_operand, ready_tree, ready_trees, ready_step, ready_list_step}
use Rattle.lorel_eval.specs.declared.ready_conds.ReadyPath.{ReadyPath}
use Rattle.lorel_eval.specs.declared.ready_conds.ReadyOperand.{ReadyOperand}
use Rattle.lorel_eval.specs.declared.ready_conds.ReadyCond.{ReadyCond, Or, And, Exists, ForAll, Compare, Same}
use Rattle.lorel_eval.specs.declared.ready_conds.ReadyCondList.{ReadyCondList}
use Rattle.lorel_eval.specs.declared.ready_conds.ReadyCond.TheOpen as layer
use Rattle.lorel_eval.specs.declared.ready_conds.ReadyCond.TheVariants.{rolls-Or, rolls-And, rolls-Exists, rolls-ForAll, rolls-Compare, rolls-Same}
use Rattle.lorel_eval.specs.declared.ready_conds.ReadyCond.TheFolds.{fold-roll-ReadyCond}

pub or_ready : (cond : ReadyCond) (members : ReadyCondList) → cond ≡ Or members → ready_tree cond ≡ or (in_order (ready_trees members))
or_ready cond members is =
    ap ready_tree (is ∙ sym (rolls-Or members)) ∙ fold-roll-ReadyCond (CondOf LabelledPath) (List (CondOf LabelledPath)) ready_step ready_list_step (layer.Or members)

pub and_ready : (cond : ReadyCond) (members : ReadyCondList) → cond ≡ And members → ready_tree cond ≡ and (in_order (ready_trees members))
and_ready cond members is =
    ap ready_tree (is ∙ sym (rolls-And members)) ∙ fold-roll-ReadyCond (CondOf LabelledPath) (List (CondOf LabelledPath)) ready_step ready_list_step (layer.And members)

pub exists_ready : (cond body : ReadyCond) (path : ReadyPath) (held : _) → cond ≡ Exists path held → body ≡ held.value
    → ready_tree cond ≡ exists (ready_path path) (ready_tree body)
exists_ready cond body path held is boxed =
    ap ready_tree (is ∙ sym (rolls-Exists path held)) ∙ fold-roll-ReadyCond (CondOf LabelledPath) (List (CondOf LabelledPath)) ready_step ready_list_step (layer.Exists path held)
    ∙ ap (λ (b : ReadyCond). exists (ready_path path) (ready_tree b)) (sym boxed)

pub for_all_ready : (cond body : ReadyCond) (path : ReadyPath) (held : _) → cond ≡ ForAll path held → body ≡ held.value
    → ready_tree cond ≡ for_all (ready_path path) (ready_tree body)
for_all_ready cond body path held is boxed =
    ap ready_tree (is ∙ sym (rolls-ForAll path held)) ∙ fold-roll-ReadyCond (CondOf LabelledPath) (List (CondOf LabelledPath)) ready_step ready_list_step (layer.ForAll path held)
    ∙ ap (λ (b : ReadyCond). for_all (ready_path path) (ready_tree b)) (sym boxed)

pub compare_ready : (cond : ReadyCond) (left : ReadyOperand) (op : Op) (right : ReadyOperand) → cond ≡ Compare left op right
    → ready_tree cond ≡ compare (ready_operand left) op (ready_operand right)
compare_ready cond left op right is =
    ap ready_tree (is ∙ sym (rolls-Compare left op right)) ∙ fold-roll-ReadyCond (CondOf LabelledPath) (List (CondOf LabelledPath)) ready_step ready_list_step (layer.Compare left op right)

pub same_ready : (cond : ReadyCond) (left right : ReadyPath) → cond ≡ Same left right → ready_tree cond ≡ same (ready_path left) (ready_path right)
same_ready cond left right is =
    ap ready_tree (is ∙ sym (rolls-Same left right)) ∙ fold-roll-ReadyCond (CondOf LabelledPath) (List (CondOf LabelledPath)) ready_step ready_list_step (layer.Same left right)
