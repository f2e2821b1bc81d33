use Rattle.std.proofs.Common.{List, All, AllPairs, ◌<◌, Contains, sym, subst}
use Rattle.list_laws.proofs.PlaceLaws.{place_of_member}
use Rattle.set_explorer.specs.Types.{Oid, Label, Node}
use Rattle.set_explorer.specs.Nodes.{node_number, AscendByLabel}
use Rattle.set_steps.specs.SetSteps.{AreSteps}
use Rattle.set_explorer.specs.inside.Gains.{IsThere}
use Rattle.set_explorer.specs.inside.Losses.{AreRest, AreLeft}
use Rattle.set_explorer.proofs.CleanLaws.{kept-row, kept-there, kept-ascend}
use Rattle.set_explorer.proofs.LossLaws.{rest-ascends, told-all, left-steps, left-origins}
use Rattle.set_explorer.proofs.losses.told_targets.Goals as goal

pub left_targets-requires-clause-there : goal.left_targets-requires-clause-there
left_targets-requires-clause-there g c =
    let kept = c.args.change.now.guide.nodes.now in
    let is = c.requires.told in
    let at = place_of_member kept c.args.there.now c.requires.there in
    subst (λ (l : List (Label × Node)). All (IsThere kept) l) (sym c.as_slice-edges.ensures)
    (kept-there kept is.names is.before is.stands (node_number at.0) c.args.there.now at.1)

pub left_targets-requires-clause-edges : goal.left_targets-requires-clause-edges
left_targets-requires-clause-edges g c =
    let kept = c.args.change.now.guide.nodes.now in
    let is = c.requires.told in
    let at = place_of_member kept c.args.there.now c.requires.there in
    subst (λ (l : List (Label × Node)). AscendByLabel l) (sym c.as_slice-edges.ensures)
    (kept-ascend kept is.names is.before is.stands (node_number at.0) c.args.there.now at.1)

pub left_targets-requires-clause-rest : goal.left_targets-requires-clause-rest
left_targets-requires-clause-rest g c =
    let gone = c.as_slice-gone.result.now in
    let ascend = subst (λ (l : List (Label × List Oid)). AllPairs (λ (a b : Label × List Oid). a.0.0 < b.0.0) l)
    (sym c.as_slice-gone.ensures.value) c.in_ok-lost_row.ensures.ascend in
    subst (λ (l : List (Label × List Oid)). AllPairs (λ (a b : Label × List Oid). a.0.0 < b.0.0) l)
    (sym c.as_slice-rest.ensures.value)
    (rest-ascends gone c.as_slice-back.result.now c.in_ok-rest_row.rest_row.items c.in_ok-rest_row.ensures ascend)

pub returns-clause-steps : goal.returns-clause-steps
returns-clause-steps g c =
    let change = c.args.change.now in
    let kept = change.guide.nodes.now in
    let there = c.args.there.now in
    let after = g.A.Adjacent.edges change.after.now in
    let is = c.requires.told in
    let at = place_of_member kept there c.requires.there in
    let own = kept-row kept is.names is.before is.stands (node_number at.0) there at.1 in
    let gone = c.as_slice-gone.result.now in
    let back = c.as_slice-back.result.now in
    let come = c.as_slice-come.result.now in
    let rest = c.as_slice-rest.result.now in
    let targets = c.in_ok-targets.targets.items in
    let gone_are = subst (λ (r : List (Label × List Oid)). AreSteps change.lost.now there.set r)
    (sym c.as_slice-gone.ensures.value) c.in_ok-lost_row.ensures in
    let back_are = subst (λ (r : List (Label × List Oid)). AreSteps change.entering.now there.set r)
    (sym c.as_slice-back.ensures.value) c.in_ok-back_row.ensures in
    let come_are = subst (λ (r : List (Label × List Oid)). AreSteps change.fresh.now there.set r)
    (sym c.as_slice-come.ensures.value) c.in_ok-fresh_row.ensures in
    let rest_are = subst (λ (r : List (Label × List Oid)). AreRest gone back r)
    (sym c.as_slice-rest.ensures.value) c.in_ok-rest_row.ensures in
    let left = subst (λ (l : List (Label × Node)). AreLeft kept l rest come targets) c.as_slice-edges.ensures
    c.in_ok-targets.ensures in
    let all_told = told-all kept change.lost.now change.fresh.now after change.told.now change.entering.now change.dirty.now
    change.grown.now change.back.now is there.set gone gone_are (c.are_told.ensures c.if-not-are_told.false) in
    left-steps kept change.lost.now change.fresh.now after change.told.now change.entering.now change.dirty.now
    change.grown.now change.back.now is there.set all_told there.edges gone back rest come targets own gone_are back_are
    come_are rest_are left

pub returns-clause-there : goal.returns-clause-there
returns-clause-there g c =
    left-origins c.args.change.now.guide.nodes.now c.as_slice-edges.result.now c.as_slice-rest.result.now
    c.as_slice-come.result.now c.in_ok-targets.targets.items c.in_ok-targets.ensures
