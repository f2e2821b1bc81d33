-- The child of a node by a label.
use Rattle.std.proofs.Common.{◌≡◌, Option, Some, None, IfSome, IfNone, List, Contains, sym, ◌∙◌, subst}
use Rattle.std.specs.List.{slice_get}
use Rattle.dataguide.specs.Types.{Label, Node, GuideNode}
use Rattle.dataguide.specs.Guides.{HasEdge}

pub child-found : (nodes : List GuideNode) (node : Node) (there : GuideNode) (label : Label) (found : Option Node)
    → slice_get nodes node.0 ≡ Some there
    → IfSome found (λ next. Contains there.edges (label, next)) → IfSome found (λ next. HasEdge nodes node label next)
child-found nodes node there label None at has = tt
child-found nodes node there label (Some next) at has = (there, at, has)

pub child-none : (nodes : List GuideNode) (node : Node) (there : GuideNode) (label : Label) (found : Option Node)
    → slice_get nodes node.0 ≡ Some there
    → IfNone found ((next : Node) → ¬ Contains there.edges (label, next))
    → IfNone found ((next : Node) → ¬ HasEdge nodes node label next)
child-none nodes node there label None at none = λ next has.
    let both : Some there ≡ Some has.0 = sym at ∙ has.1 in
    let same : there ≡ has.0 = cc in
    none next (subst (λ (n : GuideNode). Contains n.edges (label, next)) (sym same) has.2)
child-none nodes node there label (Some next) at none = tt

pub no-child : (nodes : List GuideNode) (node : Node) (label : Label) → slice_get nodes node.0 ≡ None → (next : Node)
    → HasEdge nodes node label next → ⊥
no-child nodes node label none next has = let both : Some has.0 ≡ None = sym has.1 ∙ none in cc
