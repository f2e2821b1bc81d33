-- What is made ready of an `or` or `and` is that condition over label texts.
use Rattle.std.proofs.Common.{◌≡◌, ℕ, List, map, refl, sym, ap, ◌∙◌}
use Rattle.lorel_bound.specs.Bound.{BoundPathTree, bound_cond, bound_conds, cond_step, conds_step, conds_from}
use Rattle.lorel_bound.specs.Conditions.{CondOf, or, and}
use Rattle.lorel_bound.specs.declared.conditions.BoundCond.{BoundCond, Or, And}
use Rattle.lorel_bound.specs.declared.conditions.BoundCond.TheOpen as layer
use Rattle.lorel_bound.specs.declared.conditions.BoundCond.TheVariants.{rolls-Or, rolls-And}
use Rattle.lorel_bound.specs.declared.conditions.BoundCond.TheFolds.{fold-roll-BoundCond}
use Rattle.lorel_bound.specs.declared.conditions.BoundCondList.{BoundCondList}
use Rattle.lorel_eval.specs.declared.ready_conds.ReadyCond as ready
use Rattle.lorel_eval.specs.declared.ready_conds.ReadyCondList.{ReadyCondList}
use Rattle.lorel_eval.specs.inside.Labelled.{labelled, labelled_all, in_order}
use Rattle.lorel_eval.specs.inside.Ready.{ready_tree, ready_trees}
use Rattle.lorel_eval.proofs.LabelledLaws.{listed_labelled}
use Rattle.lorel_eval.proofs.ReadyLaws.{or_ready, and_ready}

module _ (labels : List (List ℕ)) (cond : BoundCond) (members : BoundCondList) (list : ReadyCondList) where
  members_made : ready_trees list ≡ map (labelled labels) (bound_conds members)
      → in_order (ready_trees list) ≡ labelled_all labels (conds_from (bound_conds members))
  members_made made = ap in_order made ∙ listed_labelled labels (bound_conds members)

  pub or_made : cond ≡ Or members → ready_trees list ≡ map (labelled labels) (bound_conds members) → ready_tree (ready.Or list) ≡ labelled labels (bound_cond cond)
  or_made is made =
      or_ready (ready.Or list) list refl ∙ ap or (members_made made)
      ∙ sym (ap (labelled labels) (ap bound_cond (is ∙ sym (rolls-Or members))
      ∙ fold-roll-BoundCond (CondOf BoundPathTree) (List (CondOf BoundPathTree)) cond_step conds_step (layer.Or members)))

  pub and_made : cond ≡ And members → ready_trees list ≡ map (labelled labels) (bound_conds members) → ready_tree (ready.And list) ≡ labelled labels (bound_cond cond)
  and_made is made =
      and_ready (ready.And list) list refl ∙ ap and (members_made made)
      ∙ sym (ap (labelled labels) (ap bound_cond (is ∙ sym (rolls-And members))
      ∙ fold-roll-BoundCond (CondOf BoundPathTree) (List (CondOf BoundPathTree)) cond_step conds_step (layer.And members)))
