use Rattle.std.proofs.Common.{◌↔◌, ◌⊎◌, ℕ, Contains, take}
use Rattle.one_index.specs.Types.{Label}
use Rattle.one_index.specs.inside.Linked.{IsLink}
use Rattle.one_index.proofs.linking.push_links.Given as goal

abbrev pub invariant-edges : goal.invariant-edges
invariant-edges l = (link : ℕ × (Label × ℕ)) → Contains l.links.items link
    ↔ (Contains l.fn.links.items link ⊎ IsLink l.objects l.numbers l.from (take l.edge-index l.edges) link)
