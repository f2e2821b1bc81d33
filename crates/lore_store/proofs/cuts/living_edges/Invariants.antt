use Rattle.std.proofs.Common.{take}
use Rattle.lore_store.specs.inside.Cuts.{AreLiving}
use Rattle.lore_store.proofs.cuts.living_edges.Given as goal

abbrev pub invariant-edges : goal.invariant-edges
invariant-edges g l = AreLiving (take l.edge-index l.fn.edges) (g.V.ValueOf.objects l.values) l.living
