use Rattle.std.proofs.Common.{List, ◌++◌, ap, ◌∙◌}
use Rattle.graph_changes.specs.Types.{Oid, Value}
use Rattle.graph_changes.specs.Left.{not_dead}
use Rattle.graph_changes.proofs.objects_then.objects_given.Goals as goal

pub returns : goal.returns
returns c =
    let dead = c.args.dead.now in
    let first = c.in_ok-push_living.ensures
    ∙ ap (λ (l : List (Oid × Value)). l ++ not_dead dead c.as_slice.result.now) c.in_ok-given.ensures
    ∙ ap (not_dead dead) c.as_slice.ensures.value in
    let whole = c.in_ok-push_living-2.ensures
    ∙ ap (λ (l : List (Oid × Value)). l ++ not_dead dead c.as_slice-2.result.now) first
    ∙ ap (λ (l : List (Oid × Value)). not_dead dead c.in_ok-values.values.items ++ not_dead dead l) c.as_slice-2.ensures in
    (c.in_ok-values.values.items, c.in_ok-values.ensures, whole)
