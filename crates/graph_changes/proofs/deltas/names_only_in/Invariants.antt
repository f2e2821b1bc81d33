use Rattle.std.proofs.Common.{take}
use Rattle.graph_changes.specs.Differing.{AreOnlyIn}
use Rattle.graph_changes.proofs.deltas.names_only_in.Given as goal

abbrev pub invariant-names : goal.invariant-names
invariant-names l = AreOnlyIn (take l.place l.names) l.others l.only
