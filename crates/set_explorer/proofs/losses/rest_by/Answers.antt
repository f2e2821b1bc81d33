use Rattle.std.proofs.Common.{List, Contains, ◌∙◌, subst}
use Rattle.lore_base.specs.TargetSets.{ListsInOrder}
use Rattle.set_explorer.specs.Types.{Oid}
use Rattle.set_explorer.proofs.LossLaws.{rest-some, rest-none}
use Rattle.set_explorer.proofs.losses.rest_by.Goals as goal

pub returns-in-Some : goal.returns-in-Some
returns-in-Some c =
    let other = c.in-Some.other.now in
    let rest = c.in_ok-rest.rest in
    rest-some c.args.back.now c.args.label c.args.step.now rest other c.requires c.in-Some.ensures.found
    (subst (λ (l : List Oid). ListsInOrder (λ oid. Contains l oid × (Contains other oid → ⊥)) rest)
    c.as_slice-oids.ensures.oids c.in_ok-rest.ensures)

pub returns : goal.returns
returns c =
    let all = c.in_ok-all.all in
    let none = c.from_ascending-none.result in
    rest-none c.args.back.now c.args.label c.args.step.now all none (c.from_ascending-none.ensures ∙ c.new.ensures)
    c.in_default.ensures.none
    (subst (λ (l : List Oid). ListsInOrder (λ oid. Contains l oid × (Contains none oid → ⊥)) all)
    c.as_slice-oids.ensures.oids c.in_ok-all.ensures)
