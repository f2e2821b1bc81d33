use Rattle.std.proofs.Common.{◌≡◌, List, IfSome, IfNone, Contains, ap, ◌∙◌, subst}
use Rattle.dataguide.specs.Types.{Node, GuideNode}
use Rattle.dataguide.specs.Guides.{GuideGraph}
use Rattle.set_explorer.specs.Nodes.{HasSet, sets_of}
use Rattle.dataguide.proofs.TableLaws.{one-node}
use Rattle.dataguide.proofs.data_guide.Guide.find_set.Goals as goal

pub returns-clause-found : goal.returns-clause-found
returns-clause-found c =
    subst (λ (l : List GuideNode). IfSome c.find_node.result (λ node. HasSet l node c.args.set.now))
    (c.as_slice.ensures.value ∙ ap (λ (g : GuideGraph). g.nodes) c.self.view_is) c.find_node.ensures.found

pub returns-clause-only : goal.returns-clause-only
returns-clause-only c =
    let set = c.args.set.now in
    let has =
    subst (λ (l : List GuideNode). IfSome c.find_node.result (λ node. HasSet l node set)) c.as_slice.ensures.value
    c.find_node.ensures.found in
    subst (λ (g : GuideGraph). IfSome c.find_node.result (λ node. (other : Node)
    → HasSet g.nodes other set → other ≡ node)) c.self.view_is
    (one-node c.self.inside.by_hash.items c.self.inside.nodes.items set c.find_node.result c.self.invariant has)

pub returns-clause-none : goal.returns-clause-none
returns-clause-none c =
    subst (λ (l : List GuideNode). IfNone c.find_node.result (¬ Contains (sets_of l) c.args.set.now))
    (c.as_slice.ensures.value ∙ ap (λ (g : GuideGraph). g.nodes) c.self.view_is) c.find_node.ensures.none
