use Rattle.std.proofs.Common.{◌≡◌, ◌↔◌, List, length, Some, None, Contains, refl, sym, subst}
use Rattle.std.specs.List.{slice_get}
use Rattle.std.proofs.lemmas.Bool.{ltb-true, ltb-false}
use Rattle.std.proofs.lemmas.Option.{slice_get_read, slice_get_past}
use Rattle.dataguide.specs.Guides.{HasEdge}
use Rattle.guide_query.specs.Types.{Label, Node, GuideNode}
use Rattle.guide_query.proofs.GuideWalkLaws.{edges-shown, no-edges}
use Rattle.guide_query.proofs.guide_sets.GuideSetsSetGraph.edges.Goals as goal

pub returns-in-Some : goal.returns-in-Some
returns-in-Some c label next =
    let all = c.args.self.now.guide.now.nodes in
    let nodes = c.nodes.result.now in
    let node = c.args.node in
    let there = c.in-Some.there.now in
    let found = c.in-Some.ensures.lookup in
    let at : slice_get nodes node.0 ≡ Some there =
    slice_get_read nodes (length nodes) node.0 there refl (ltb-true node.0 (length nodes) (sym found.0)) found.1 in
    let same : slice_get all node.0 ≡ Some there = subst (λ (l : List GuideNode). slice_get l node.0 ≡ Some there) c.nodes.ensures at in
    subst (λ (l : List (Label × Node)). Contains l (label, next) ↔ HasEdge all node label next) (sym c.as_slice.ensures)
    (edges-shown all node there same label next)

pub returns-in-None : goal.returns-in-None
returns-in-None c label next =
    let all = c.args.self.now.guide.now.nodes in
    let nodes = c.nodes.result.now in
    let node = c.args.node in
    let none : slice_get nodes node.0 ≡ None =
    slice_get_past nodes node.0 (ltb-false node.0 (length nodes) (sym c.in-None.ensures.lookup.0)) in
    no-edges all node (subst (λ (l : List GuideNode). slice_get l node.0 ≡ None) c.nodes.ensures none) label next
