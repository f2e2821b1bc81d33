-- Conditions that read known slots alone, by their forms.
use Rattle.std.proofs.Common.{◌≡◌, ℕ, ◌+◌, ◌<◌, Bool, List, [], ◌∷◌, length, get_or, map, drop, sym, ap, ◌∙◌, subst}
use Rattle.std.specs.List.{All}
use Rattle.std.proofs.lemmas.List.{drop_more}
use Rattle.std.proofs.lemmas.List.Elements.{All-nil, All-cons, All-append}
use Rattle.lorel_bound.specs.Conditions.{operand_paths, paths_of, paths_of_all}
use Rattle.lorel_eval.specs.Types.{Op}
use Rattle.lorel_eval.specs.declared.ready_conds.ReadyPath.{ReadyPath}
use Rattle.lorel_eval.specs.declared.ready_conds.ReadyOperand.{ReadyOperand}
use Rattle.lorel_eval.specs.declared.ready_conds.ReadyCond.{ReadyCond, Exists, ForAll, Compare, Same}
use Rattle.lorel_eval.specs.inside.Labelled.{in_order}
use Rattle.lorel_eval.specs.inside.Ready.{ready_path, ready_operand, ready_tree}
use Rattle.lorel_eval.specs.inside.Early.{IsKnown, StartsKnown, ReadsKnown}
use Rattle.lorel_eval.proofs.ReadyLaws.{exists_ready, for_all_ready, compare_ready, same_ready}

pub exists_known : (known : List Bool) (cond body : ReadyCond) (path : ReadyPath) (held : _) → cond ≡ Exists path held → body ≡ held.value
    → IsKnown known path.start → ReadsKnown known (ready_tree body) → ReadsKnown known (ready_tree cond)
exists_known known cond body path held is boxed start rest =
    subst (ReadsKnown known) (sym (exists_ready cond body path held is boxed))
    (All-cons (StartsKnown known) (ready_path path) (paths_of (ready_tree body)) start rest)

pub for_all_known : (known : List Bool) (cond body : ReadyCond) (path : ReadyPath) (held : _) → cond ≡ ForAll path held → body ≡ held.value
    → IsKnown known path.start → ReadsKnown known (ready_tree body) → ReadsKnown known (ready_tree cond)
for_all_known known cond body path held is boxed start rest =
    subst (ReadsKnown known) (sym (for_all_ready cond body path held is boxed))
    (All-cons (StartsKnown known) (ready_path path) (paths_of (ready_tree body)) start rest)

pub compare_known : (known : List Bool) (cond : ReadyCond) (left : ReadyOperand) (op : Op) (right : ReadyOperand) → cond ≡ Compare left op right
    → All (StartsKnown known) (operand_paths (ready_operand left)) → All (StartsKnown known) (operand_paths (ready_operand right))
    → ReadsKnown known (ready_tree cond)
compare_known known cond left op right is first second =
    subst (ReadsKnown known) (sym (compare_ready cond left op right is))
    (All-append (StartsKnown known) (operand_paths (ready_operand left)) (operand_paths (ready_operand right)) first second)

pub same_known : (known : List Bool) (cond : ReadyCond) (left right : ReadyPath) → cond ≡ Same left right → IsKnown known left.start
    → IsKnown known right.start → ReadsKnown known (ready_tree cond)
same_known known cond left right is first second =
    subst (ReadsKnown known) (sym (same_ready cond left right is))
    (All-cons (StartsKnown known) (ready_path left) (ready_path right ∷ []) first
    (All-cons (StartsKnown known) (ready_path right) [] second (All-nil (StartsKnown known))))

-- a member more that reads known slots alone
pub members_known : (known : List Bool) (members : List ReadyCond) (i : ℕ) (member : ReadyCond) → i < length members → member ≡ get_or members i member
    → ReadsKnown known (ready_tree member) → All (StartsKnown known) (paths_of_all (in_order (map ready_tree (drop (i + 1) members))))
    → All (StartsKnown known) (paths_of_all (in_order (map ready_tree (drop i members))))
members_known known members i member within at own rest =
    subst (λ (l : List ReadyCond). All (StartsKnown known) (paths_of_all (in_order (map ready_tree l))))
    (sym (drop_more members i member within ∙ ap (λ (m : ReadyCond). m ∷ drop (i + 1) members) (sym at)))
    (All-append (StartsKnown known) (paths_of (ready_tree member)) (paths_of_all (in_order (map ready_tree (drop (i + 1) members)))) own rest)
