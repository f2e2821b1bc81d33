use Rattle.std.proofs.Common.{ℕ, List, drop}
use Rattle.guide_query.specs.Types.{Oid, Edge}
use Rattle.guide_query.specs.inside.PathNodes.{IsReadable, HasComeTo}
use Rattle.guide_query.proofs.path_nodes.node_along.Given as goal

abbrev pub invariant-texts : goal.invariant-texts
invariant-texts l = record {
  come : (names : List (List ℕ × Oid)) (edges : List Edge) (name : List ℕ) → IsReadable l.guide l.labels names edges
      → HasComeTo l.guide.nodes names edges l.labels name l.texts l.texts l.fn.start
      → HasComeTo l.guide.nodes names edges l.labels name l.texts (drop l.text-index l.texts) l.node;
}
