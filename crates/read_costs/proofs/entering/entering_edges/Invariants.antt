use Rattle.std.proofs.Common.{◌≡◌, ◌+◌, take}
use Rattle.std.specs.List.{sum_by}
use Rattle.lore_base.specs.Databases.{AreAscendingEdges}
use Rattle.read_costs.specs.ReadCosts.{in_reads}
use Rattle.read_costs.specs.Entering.{AreEntering}
use Rattle.read_costs.proofs.entering.entering_edges.Given as goal

abbrev pub invariant-oids : goal.invariant-oids
invariant-oids g l = record {
  edges : AreEntering (g.K.Links.edges l.links) (take l.oid-index l.oids) l.edges;
  steps : AreAscendingEdges (g.K.Links.edges l.links)
      → l.steps ≡ l.fn.steps + sum_by (in_reads (g.K.Links.edges l.links)) (take l.oid-index l.oids);
}
