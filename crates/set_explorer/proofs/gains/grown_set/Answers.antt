use Rattle.std.proofs.Common.{◌<◌, Option, IfSome, length, sym, ◌∙◌, subst}
use Rattle.lore_base.specs.TargetSets.{ListsInOrder}
use Rattle.set_explorer.specs.Types.{Node}
use Rattle.set_explorer.specs.inside.Gains.{HasEither}
use Rattle.set_explorer.proofs.ReadLaws.{kept-is}
use Rattle.set_explorer.proofs.GainLaws.{either-alone, either-joined}
use Rattle.set_explorer.proofs.gains.grown_set.Goals as goal

pub returns-in-Some : goal.returns-in-Some
returns-in-Some c =
    let kept = c.args.kept.now in
    let node = c.in-Some.node in
    let there = c.node_of.result.now in
    let within = subst (λ (o : Option Node). IfSome o (λ n. n.0 < length kept)) c.in-Some.is c.requires in
    subst (λ (o : Option Node). ListsInOrder (HasEither kept o c.args.step.now) c.union_into-in-Some.new.out)
    (sym c.in-Some.is)
    (either-joined kept c.args.step.now c.from_ascending-set.result (c.from_ascending-set.ensures ∙ c.new.ensures) node
    there.set c.union_into.new.out c.union_into-in-Some.new.out (kept-is kept node there within c.node_of.ensures)
    c.in_ok-union_into.ensures.ok c.in_ok-union_into-in-Some.ensures.ok)

pub returns-in-None : goal.returns-in-None
returns-in-None c =
    subst (λ (o : Option Node). ListsInOrder (HasEither c.args.kept.now o c.args.step.now) c.union_into.new.out)
    (sym c.in-None.is)
    (either-alone c.args.kept.now c.args.step.now c.from_ascending-set.result
    (c.from_ascending-set.ensures ∙ c.new.ensures) c.union_into.new.out c.in_ok-union_into.ensures.ok)
