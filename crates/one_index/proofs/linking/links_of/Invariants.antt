use Rattle.std.proofs.Common.{◌≡◌, ◌↔◌, ℕ, ◌+◌, Contains, take}
use Rattle.std.specs.List.{sum_by}
use Rattle.read_costs.specs.ReadCosts.{out_reads}
use Rattle.one_index.specs.Types.{Label}
use Rattle.one_index.specs.inside.Linked.{IsEdgeBelow}
use Rattle.one_index.proofs.linking.links_of.Given as goal

abbrev pub invariant-objects : goal.invariant-objects
invariant-objects g l = record {
  links : (link : ℕ × (Label × ℕ)) → Contains l.links.items link
      ↔ IsEdgeBelow l.place (g.A.Adjacent.edges l.graph) l.objects l.numbers link;
  steps : l.steps ≡ l.fn.steps + sum_by (out_reads (g.A.Adjacent.edges l.graph)) (take l.place l.objects);
}
