use Rattle.std.proofs.Common.{◌<◌, Option, IfSome, List, Contains, length, sym, ◌∙◌, subst}
use Rattle.lore_base.specs.TargetSets.{ListsInOrder}
use Rattle.set_explorer.specs.Types.{Oid, Node}
use Rattle.set_explorer.specs.inside.Losses.{HasOther}
use Rattle.set_explorer.proofs.ReadLaws.{kept-is}
use Rattle.set_explorer.proofs.LossLaws.{other-node, other-none}
use Rattle.set_explorer.proofs.losses.kept_without.Goals as goal

pub returns-in-Some : goal.returns-in-Some
returns-in-Some c =
    let kept = c.args.kept.now in
    let node = c.in-Some.node in
    let there = c.node_of-there.result.now in
    let left = c.in_ok-left.left in
    let others = c.args.others.now in
    let within = subst (λ (o : Option Node). IfSome o (λ n. n.0 < length kept)) c.in-Some.is c.requires in
    let lists = subst (λ (l : List Oid). ListsInOrder (λ oid. Contains l oid × (Contains others oid → ⊥)) left)
    c.as_slice.ensures.oids c.in_ok-left.ensures in
    subst (λ (o : Option Node). ListsInOrder (HasOther kept o others) left) (sym c.in-Some.is)
    (other-node kept others left node there.set (kept-is kept node there within c.node_of-there.ensures) lists)

pub returns : goal.returns
returns c =
    let none = c.from_ascending-none.result in
    subst (λ (o : Option Node). ListsInOrder (HasOther c.args.kept.now o c.args.others.now) none) (sym c.in_default.is)
    (other-none c.args.kept.now c.args.others.now none (c.from_ascending-none.ensures ∙ c.new.ensures))
