use Rattle.std.proofs.Common.{List, Option, All, IfSome, Contains, ◌<◌, length, sym, subst}
use Rattle.lore_base.specs.TargetSets.{ListsInOrder}
use Rattle.oem_set.specs.Sets.{IsSet}
use Rattle.set_explorer.specs.Types.{Oid, Node, Kept}
use Rattle.set_explorer.specs.PlannedNodes.{origin_set}
use Rattle.set_explorer.specs.inside.Gains.{HasEither}
use Rattle.set_explorer.proofs.ReadLaws.{kept-is}
use Rattle.set_explorer.proofs.GainLaws.{either-kept}
use Rattle.set_explorer.proofs.gains.node_with.Goals as goal

pub returns-then-has_all-clause-set : goal.returns-then-has_all-clause-set
returns-then-has_all-clause-set c =
    let kept = c.args.kept.now in
    let own = c.in_ok-own.own in
    let within = subst (λ (o : Option Node). IfSome o (λ n. n.0 < length kept)) c.in_ok-own.was c.requires.within in
    let ascend = subst (λ (o : Option Node). IfSome o (λ n. IsSet (origin_set kept (Kept n)))) c.in_ok-own.was c.requires.ascend in
    let same = kept-is kept own c.node_of.result.now within c.node_of.ensures in
    let all = subst (λ (l : List Oid). All (Contains l) c.args.step.now) (sym same)
    (subst (λ (l : List Oid). All (Contains c.node_of.result.now.set) l) c.as_slice.ensures.oids (c.has_all.ensures c.if-has_all.true)) in
    subst (λ (o : Option Node). ListsInOrder (HasEither kept o c.args.step.now) (origin_set kept (Kept own))) (sym c.in_ok-own.was)
    (either-kept kept own c.args.step.now ascend all)
