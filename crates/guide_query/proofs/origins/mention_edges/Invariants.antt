use Rattle.std.proofs.Common.{ℕ}
use Rattle.dataguide.specs.Guides.{GuideGraph}
use Rattle.guide_query.specs.inside.Origins.{HasRow, AreOrigins}
use Rattle.guide_query.proofs.origins.mention_edges.Given as goal

abbrev pub invariant-edges : goal.invariant-edges
invariant-edges l = record {
  met : (guide : GuideGraph) (read : ℕ) → HasRow guide.nodes l.from l.fn.edges
      → AreOrigins guide (record { entries = read; nodes = l.from.0; edges = 0 }) l.fn.origins.items
      → AreOrigins guide (record { entries = read; nodes = l.from.0; edges = l.edge-index }) l.origins.items;
}
