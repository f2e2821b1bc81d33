-- The nodes of a guide as a graph of sets.
use Rattle.std.specs.Prelude.{◌≡◌, ◌==◌, ◌↔◌, true, Option}
use Rattle.std.proofs.lemmas.Bool.{eqb-true}
use Rattle.lore_base.specs.Paths.{PathTree}
use Rattle.dataguide.specs.Guides.{HasEdge}
use Rattle.set_walk.specs.SetPaths.{IsReachedBySets}
use Rattle.guide_query.specs.Types.{Oid, Node}
use Rattle.guide_query.specs.GuideReaches.{GuideOver, IsMember, TellsReached}

-- nodes of one number are one node
pub same_node : (a b : Node) → (a.0 == b.0) ≡ true → a ≡ b
same_node a b h = (let is = eqb-true a.0 b.0 h in λ i. record { 0 = is i })

-- along the graph of the guide's sets the path reaches the object from the start, if there is one
abbrev pub IsWalked : GuideOver → PathTree → Option Node → Oid → Type 0
IsWalked told = IsReachedBySets told.labels (HasEdge told.guide.nodes) (IsMember told.guide.nodes)

-- what paths reach from this start is what the guide tells of the named object
abbrev pub IsStart : GuideOver → Oid → Option Node → Type 0
IsStart told named start = (path : PathTree) (oid : Oid) → IsWalked told path start oid ↔ TellsReached told path named oid
