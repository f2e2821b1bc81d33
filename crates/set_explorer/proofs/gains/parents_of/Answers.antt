use Rattle.std.proofs.Common.{List, Contains, ap, ◌∙◌, subst}
use Rattle.std.proofs.lemmas.List.{take_all}
use Rattle.lore_base.specs.TargetSets.{ListsInOrder}
use Rattle.set_explorer.specs.Types.{Oid, Edge}
use Rattle.set_explorer.specs.Touched.{parents_of}
use Rattle.set_explorer.proofs.gains.parents_of.Goals as goal

pub returns : goal.returns
returns c =
    subst (λ (l : List Oid). ListsInOrder (Contains l) c.in_ok-set.set)
    (c.edges.invariant ∙ ap (λ (l : List Edge). parents_of l)
    (take_all c.edges.edge-index c.args.edges.now c.edges-test.false)) c.in_ok-set.ensures.set
