use Rattle.std.proofs.Common.{map, take}
use Rattle.edge_lists.specs.Objects.{object_of}
use Rattle.graph_changes.specs.inside.OneMore.{AreValuesOf}
use Rattle.graph_changes.proofs.deltas.values_of.Given as goal

abbrev pub invariant-oids : goal.invariant-oids
invariant-oids l = AreValuesOf (map object_of l.objects) (take l.oid-index l.oids) l.values
