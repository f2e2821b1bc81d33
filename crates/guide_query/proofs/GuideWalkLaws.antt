-- What the graph of a guide's sets tells is what the guide tells.
use Rattle.std.proofs.Common.{◌≡◌, ◌↔◌, List, [], ◌∷◌, Some, None, Contains, sym, ap, ◌∙◌, subst, arith}
use Rattle.std.specs.List.{slice_get}
use Rattle.std.specs.Prelude.{Option, IfSome, IfNone}
use Rattle.lore_base.specs.Paths.{PathTree}
use Rattle.lore_base.specs.TargetSets.{ListsInOrder}
use Rattle.lore_base.proofs.MemberLaws.{Contains-none}
use Rattle.list_laws.proofs.PlaceLaws.{Contains-from_place}
use Rattle.oem_set.specs.Sets.{IsSet}
use Rattle.dataguide.specs.Guides.{HasSet, HasEdge, sets_of}
use Rattle.set_walk.specs.SetPaths.{IsReachedBySets}
use Rattle.guide_query.specs.Types.{Oid, Label, Node, GuideNode}
use Rattle.guide_query.specs.GuideReaches.{GuideOver, IsMember, TellsReached}

-- the objects of a node are those of its set
pub member-set : (nodes : List GuideNode) (node : Node) (set : List Oid) (oid : Oid) → HasSet nodes node set
    → IsMember nodes node oid → Contains set oid
member-set nodes node set oid has member =
    let both : Some member.0 ≡ Some set = sym member.1 ∙ has in
    let is : member.0 ≡ set = cc in
    subst (λ (s : List Oid). Contains s oid) is member.2

module _ (nodes : List GuideNode) (node : Node) where
  pub set-listed : (set : List Oid) → HasSet nodes node set → IsSet set → ListsInOrder (IsMember nodes node) set
  set-listed set has ascending = record {
    ascending = ascending;
    exact = λ oid. (λ there. (set, has, there), λ member. member-set nodes node set oid has member);
  }

  pub none-listed : slice_get (sets_of nodes) node.0 ≡ None → ListsInOrder (IsMember nodes node) []
  none-listed none = record {
    ascending = λ i j d less within. absurd (omega (arith, within));
    exact = λ oid. (
      λ there. absurd (Contains-none oid there),
      λ member. (let both : None ≡ Some member.0 = sym none ∙ member.1 in cc),
    );
  }

  -- the edges of a node are those that leave it
  pub edges-shown : (there : GuideNode) → slice_get nodes node.0 ≡ Some there → (label : Label) (next : Node)
      → Contains there.edges (label, next) ↔ HasEdge nodes node label next
  edges-shown there at label next = (
    λ edge. (there, at, edge),
    λ edge. (
        let both : Some edge.0 ≡ Some there = sym edge.1 ∙ at in
        let same : edge.0 ≡ there = cc in
        subst (λ (n : GuideNode). Contains n.edges (label, next)) same edge.2),
  )

  pub no-edges : slice_get nodes node.0 ≡ None → (label : Label) (next : Node)
      → Contains {X = Label × Node} [] (label, next) ↔ HasEdge nodes node label next
  no-edges none label next = (
    λ edge. absurd (Contains-none (label, next) edge),
    λ edge. (let both : None ≡ Some edge.0 = sym none ∙ edge.1 in cc),
  )

-- from the node of the named object alone, if there is one, its sets tell what the guide tells
pub told-by-sets : (told : GuideOver) (path : PathTree) (named : Oid) (set : List Oid) (start : Option Node) → set ≡ named ∷ []
    → IfSome start (λ node. HasSet told.guide.nodes node set)
    → IfSome start (λ node. (other : Node) → HasSet told.guide.nodes other set → other ≡ node)
    → IfNone start (Contains (sets_of told.guide.nodes) set → ⊥) → (oid : Oid)
    → IsReachedBySets told.labels (HasEdge told.guide.nodes) (IsMember told.guide.nodes) path start oid
    ↔ TellsReached told path named oid
told-by-sets told path named set None is found only none oid = (
  λ reached. (let both : None ≡ Some reached.entry = reached.enters in cc),
  λ tells. absurd (none (subst (λ (s : List Oid). Contains (sets_of told.guide.nodes) s) (sym is)
      (Contains-from_place (sets_of told.guide.nodes) (tells.entry).0 (named ∷ []) tells.enters))),
)
told-by-sets told path named set (Some node) is found only none oid = (
  λ reached.
      let both : Some node ≡ Some reached.entry = reached.enters in
      let same : node ≡ reached.entry = cc in
      record {
        entry = reached.entry;
        enters = subst (λ (s : List Oid). HasSet told.guide.nodes reached.entry s) is
            (subst (λ (n : Node). HasSet told.guide.nodes n set) same found);
        word = reached.word;
        spelled = reached.spelled;
        last = reached.last;
        leads = reached.leads;
        member = reached.member;
      },
  λ tells.
      let same : tells.entry ≡ node =
      only tells.entry (subst (λ (s : List Oid). HasSet told.guide.nodes tells.entry s) (sym is) tells.enters) in
      record {
        entry = tells.entry;
        enters = ap (λ (n : Node). Some n) (sym same);
        word = tells.word;
        spelled = tells.spelled;
        last = tells.last;
        leads = tells.leads;
        member = tells.member;
      },
)
