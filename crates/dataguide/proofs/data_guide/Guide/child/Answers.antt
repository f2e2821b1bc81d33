use Rattle.std.proofs.Common.{◌≡◌, List, Some, IfSome, IfNone, Contains, sym, ap, ◌∙◌, subst}
use Rattle.std.specs.List.{slice_get}
use Rattle.dataguide.specs.Types.{Label, Node, GuideNode}
use Rattle.dataguide.specs.Guides.{GuideGraph}
use Rattle.dataguide.proofs.ChildLaws.{child-found, child-none}
use Rattle.dataguide.proofs.data_guide.Guide.child.Goals as goal

pub returns-in-Some-clause-found : goal.returns-in-Some-clause-found
returns-in-Some-clause-found c =
    let nodes : c.as_slice.result.now ≡ c.args.self.now.nodes =
    c.as_slice.ensures.value ∙ ap (λ (g : GuideGraph). g.nodes) c.self.view_is in
    let at : slice_get c.args.self.now.nodes c.args.node.0 ≡ Some c.in-Some.there.now =
    ap (λ (l : List GuideNode). slice_get l c.args.node.0) (sym nodes) ∙ sym c.in-Some.ensures in
    child-found c.args.self.now.nodes c.args.node c.in-Some.there.now c.args.label c.next_by.result at
    (subst (λ (l : List (Label × Node)). IfSome c.next_by.result (λ next. Contains l (c.args.label, next)))
    c.as_slice-in-Some.ensures c.next_by.ensures.found)

pub returns-in-Some-clause-none : goal.returns-in-Some-clause-none
returns-in-Some-clause-none c =
    let nodes : c.as_slice.result.now ≡ c.args.self.now.nodes =
    c.as_slice.ensures.value ∙ ap (λ (g : GuideGraph). g.nodes) c.self.view_is in
    let at : slice_get c.args.self.now.nodes c.args.node.0 ≡ Some c.in-Some.there.now =
    ap (λ (l : List GuideNode). slice_get l c.args.node.0) (sym nodes) ∙ sym c.in-Some.ensures in
    child-none c.args.self.now.nodes c.args.node c.in-Some.there.now c.args.label c.next_by.result at
    (subst (λ (l : List (Label × Node)). IfNone c.next_by.result ((next : Node) → ¬ Contains l (c.args.label, next)))
    c.as_slice-in-Some.ensures c.next_by.ensures.none)
