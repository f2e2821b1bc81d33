use Rattle.guide_query.specs.inside.Origins.{AreOrigins}
use Rattle.guide_query.proofs.origins.named_origins.Given as goal

abbrev pub invariant-entries : goal.invariant-entries
invariant-entries l = record {
  met : AreOrigins l.guide (record { entries = l.place; nodes = 0; edges = 0 }) l.origins.items;
}
