use Rattle.std.proofs.Common.{◌≡◌, List, [], map, All, sym, ap, ◌∙◌, subst, arith}
use Rattle.std.proofs.lemmas.List.{nil_from_length}
use Rattle.list_laws.proofs.PlaceLaws.{place_of_member}
use Rattle.set_explorer.specs.Types.{Oid, Label, Node, Origin, Kept}
use Rattle.set_explorer.specs.Nodes.{node_number, AscendByLabel}
use Rattle.set_explorer.specs.PlannedNodes.{IsOrigin}
use Rattle.set_steps.specs.SetSteps.{AreSteps}
use Rattle.set_explorer.specs.inside.Founds.{steps_of}
use Rattle.set_explorer.specs.inside.Gains.{IsThere, AreUnions}
use Rattle.set_explorer.proofs.CleanLaws.{kept-row, kept-steps, kept-origins, kept-there, kept-ascend}
use Rattle.set_explorer.proofs.GainLaws.{nothing-gained, union-steps}
use Rattle.set_explorer.proofs.explore.kept_or_grown.Goals as goal

abbrev as_target : Label × Node → Label × Origin
as_target edge = (edge.0, Kept edge.1)

pub returns-then-len-eq0-clause-steps : goal.returns-then-len-eq0-clause-steps
returns-then-len-eq0-clause-steps g c =
    let change = c.args.change.now in
    let kept = change.guide.nodes.now in
    let there = c.args.there.now in
    let stood = c.requires.stood in
    let at = place_of_member kept there c.requires.there in
    let after = g.A.Adjacent.edges change.after.now in
    let gained = c.in_ok-gained.gained in
    let none : gained ≡ [] = nil_from_length gained (omega (arith, c.len.ensures, c.if-len-eq0.true)) in
    let before = kept-steps kept stood.names stood.before stood.stands (node_number at.0) there at.1 in
    let steps = nothing-gained kept change.dirty.now change.grown.now change.fresh.now after stood there.set
    c.requires.clean gained c.in_ok-gained.ensures.exact none (steps_of kept (map as_target there.edges)) before in
    subst (λ (l : List (Label × Origin)). AreSteps after there.set (steps_of kept l))
    (sym (c.in_ok-targets.ensures ∙ ap (map as_target) c.as_slice.ensures)) steps

pub returns-then-len-eq0-clause-there : goal.returns-then-len-eq0-clause-there
returns-then-len-eq0-clause-there g c =
    let kept = c.args.change.now.guide.nodes.now in
    let there = c.args.there.now in
    let stood = c.requires.stood in
    let at = place_of_member kept there c.requires.there in
    subst (λ (l : List (Label × Origin)). All (λ (t : Label × Origin). IsOrigin kept t.1) l)
    (sym (c.in_ok-targets.ensures ∙ ap (map as_target) c.as_slice.ensures))
    (kept-origins kept stood.names stood.before stood.stands (node_number at.0) there at.1)

pub united_targets-requires-clause-there : goal.united_targets-requires-clause-there
united_targets-requires-clause-there g c =
    let kept = c.args.change.now.guide.nodes.now in
    let stood = c.requires.stood in
    let at = place_of_member kept c.args.there.now c.requires.there in
    subst (λ (l : List (Label × Node)). All (IsThere kept) l) (sym c.as_slice-2.ensures)
    (kept-there kept stood.names stood.before stood.stands (node_number at.0) c.args.there.now at.1)

pub united_targets-requires-clause-edges : goal.united_targets-requires-clause-edges
united_targets-requires-clause-edges g c =
    let kept = c.args.change.now.guide.nodes.now in
    let stood = c.requires.stood in
    let at = place_of_member kept c.args.there.now c.requires.there in
    subst (λ (l : List (Label × Node)). AscendByLabel l) (sym c.as_slice-2.ensures)
    (kept-ascend kept stood.names stood.before stood.stands (node_number at.0) c.args.there.now at.1)

pub returns-clause-steps : goal.returns-clause-steps
returns-clause-steps g c =
    let change = c.args.change.now in
    let kept = change.guide.nodes.now in
    let there = c.args.there.now in
    let stood = c.requires.stood in
    let at = place_of_member kept there c.requires.there in
    let after = g.A.Adjacent.edges change.after.now in
    let gained = c.in_ok-gained.gained in
    let row = c.in_ok-row.row.items in
    let before = kept-row kept stood.names stood.before stood.stands (node_number at.0) there at.1 in
    let targets = c.in_ok-targets-2.targets.items in
    let unions = subst (λ (r : List (Label × List Oid)). AreUnions kept there.edges r targets) c.as_slice-3.ensures.value
    (subst (λ (l : List (Label × Node)). AreUnions kept l c.as_slice-3.result.now targets) c.as_slice-2.ensures
    c.in_ok-targets-2.ensures) in
    union-steps kept change.dirty.now change.grown.now change.fresh.now after stood there.set c.requires.clean gained
    c.in_ok-gained.ensures.exact there.edges row c.in_ok-targets-2.targets.items before c.in_ok-row.ensures unions
