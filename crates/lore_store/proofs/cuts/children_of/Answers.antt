use Rattle.std.proofs.Common.{List, Contains, ap, ◌∙◌, subst}
use Rattle.std.proofs.lemmas.List.{take_all}
use Rattle.lore_base.specs.declared.edges.Oid.{Oid}
use Rattle.lore_base.specs.declared.edges.Edge.{Edge}
use Rattle.lore_base.specs.TargetSets.{ListsInOrder}
use Rattle.lore_store.specs.inside.Cuts.{children_of}
use Rattle.lore_store.proofs.cuts.children_of.Goals as goal

pub returns : goal.returns
returns c =
    subst (λ (l : List Oid). ListsInOrder (Contains l) c.in_ok-set.set)
    (c.edges.invariant ∙ ap (λ (l : List Edge). children_of l)
    (take_all c.edges.edge-index c.args.edges.now c.edges-test.false)) c.in_ok-set.ensures.set
