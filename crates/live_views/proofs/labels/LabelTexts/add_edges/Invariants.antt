use Rattle.std.proofs.Common.{List, ◌++◌, take}
use Rattle.live_views.specs.Types.{Edge}
use Rattle.live_views.specs.inside.Touched.{HasFound}
use Rattle.live_views.proofs.labels.LabelTexts.add_edges.Given as goal

abbrev pub invariant-edges : goal.invariant-edges
invariant-edges l = (earlier : List Edge) → HasFound (l.all.labels.now ++ l.all.new_labels.now) earlier l.fn.self
    → HasFound (l.all.labels.now ++ l.all.new_labels.now) (earlier ++ take l.edge-index l.edges) l.self
