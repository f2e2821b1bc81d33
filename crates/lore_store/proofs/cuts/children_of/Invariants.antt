use Rattle.std.proofs.Common.{◌≡◌, take}
use Rattle.lore_store.specs.inside.Cuts.{children_of}
use Rattle.lore_store.proofs.cuts.children_of.Given as goal

abbrev pub invariant-edges : goal.invariant-edges
invariant-edges l = l.oids ≡ children_of (take l.edge-index l.fn.edges)
