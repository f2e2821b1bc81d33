use Rattle.std.proofs.Common.{◌↔◌, [], ◌∷◌, ◌++◌, map, take, drop, All}
use Rattle.lorel_eval.specs.inside.Labelled.{in_order}
use Rattle.lorel_eval.specs.inside.Ready.{ready_tree, ready_trees}
use Rattle.lorel_eval.specs.inside.Subjects.{HoldsIn, SomeHoldsIn, AllHoldIn}
use Rattle.lorel_eval.proofs.conditions.+cond.Given as goal

abbrev pub invariant-some_holds-members : goal.invariant-some_holds-members
invariant-some_holds-members g l =
    SomeHoldsIn l.subject l.objects (in_order (map ready_tree (drop l.member-index l.member-items)))
    ↔ SomeHoldsIn l.subject l.objects (in_order (ready_trees l.members))

abbrev pub invariant-all_hold-members : goal.invariant-all_hold-members
invariant-all_hold-members g l =
    AllHoldIn l.subject l.objects (in_order (map ready_tree (drop l.member-index l.member-items)))
    ↔ AllHoldIn l.subject l.objects (in_order (ready_trees l.members))

abbrev pub invariant-some_makes-found : goal.invariant-some_makes-found
invariant-some_makes-found g l = All (λ oid. HoldsIn l.subject (l.objects ++ oid ∷ []) (ready_tree l.body) → ⊥) (take l.oid-index l.found)

abbrev pub invariant-every_makes-found : goal.invariant-every_makes-found
invariant-every_makes-found g l = All (λ oid. HoldsIn l.subject (l.objects ++ oid ∷ []) (ready_tree l.body)) (take l.oid-index l.found)
