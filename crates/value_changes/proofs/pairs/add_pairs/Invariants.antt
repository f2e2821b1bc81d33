use Rattle.std.proofs.Common.{take}
use Rattle.value_changes.specs.inside.Sets.{AreAdded}
use Rattle.value_changes.specs.inside.Pairs.{pair_of, IsAtomic}
use Rattle.value_changes.proofs.pairs.add_pairs.Given as goal

abbrev pub invariant-edges : goal.invariant-edges
invariant-edges g l =
    AreAdded pair_of (IsAtomic (g.V.ValueOf.objects l.values)) (take l.edge-index l.edges) l.fn.pairs l.pairs
