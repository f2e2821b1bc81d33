use Rattle.std.proofs.Common.{length}
use Rattle.guide_query.specs.inside.Origins.{AreOrigins}
use Rattle.guide_query.proofs.origins.origins_of.Given as goal

abbrev pub invariant-nodes : goal.invariant-nodes
invariant-nodes l = record {
  met : AreOrigins l.guide (record { entries = length l.guide.entries; nodes = l.place; edges = 0 }) l.origins.items;
}
