use Rattle.std.proofs.Common.{List, All, sym, subst}
use Rattle.list_laws.proofs.PlaceLaws.{place_of_member}
use Rattle.set_explorer.specs.Types.{Oid, Label, Node}
use Rattle.set_explorer.specs.Nodes.{node_number, AscendByLabel}
use Rattle.set_explorer.specs.inside.Gains.{IsThere, AreUnions}
use Rattle.set_explorer.proofs.CleanLaws.{kept-row, kept-there, kept-ascend}
use Rattle.set_explorer.proofs.GrowthLaws.{extended-steps}
use Rattle.set_explorer.proofs.growth.extended_targets.Goals as goal

pub united_targets-requires-clause-there : goal.united_targets-requires-clause-there
united_targets-requires-clause-there g c =
    let kept = c.args.change.now.guide.nodes.now in
    let stood = c.requires.stood in
    let at = place_of_member kept c.args.there.now c.requires.there in
    subst (λ (l : List (Label × Node)). All (IsThere kept) l) (sym c.as_slice.ensures)
    (kept-there kept stood.names stood.before stood.stands (node_number at.0) c.args.there.now at.1)

pub united_targets-requires-clause-edges : goal.united_targets-requires-clause-edges
united_targets-requires-clause-edges g c =
    let kept = c.args.change.now.guide.nodes.now in
    let stood = c.requires.stood in
    let at = place_of_member kept c.args.there.now c.requires.there in
    subst (λ (l : List (Label × Node)). AscendByLabel l) (sym c.as_slice.ensures)
    (kept-ascend kept stood.names stood.before stood.stands (node_number at.0) c.args.there.now at.1)

pub returns-clause-steps : goal.returns-clause-steps
returns-clause-steps g c = λ set is.
    let change = c.args.change.now in
    let kept = change.guide.nodes.now in
    let there = c.args.there.now in
    let stood = c.requires.stood in
    let at = place_of_member kept there c.requires.there in
    let row = c.in_ok-row.row.items in
    let targets = c.in_ok-targets.targets.items in
    let own = kept-row kept stood.names stood.before stood.stands (node_number at.0) there at.1 in
    let unions = subst (λ (r : List (Label × List Oid)). AreUnions kept there.edges r targets) c.as_slice-2.ensures.value
    (subst (λ (l : List (Label × Node)). AreUnions kept l c.as_slice-2.result.now targets) c.as_slice.ensures
    c.in_ok-targets.ensures) in
    extended-steps kept change.dirty.now change.grown.now change.fresh.now (g.A.Adjacent.edges change.after.now) stood there.set
    c.args.more.now set is there.edges row targets own c.in_ok-row.ensures.row unions
