use Rattle.std.proofs.Common.{◌++◌, List, sym, subst, append-nil}
use Rattle.std.proofs.lemmas.List.{take_all}
use Rattle.live_views.specs.Types.{Edge}
use Rattle.live_views.specs.inside.Touched.{HasFound}
use Rattle.live_views.proofs.labels.LabelTexts.add_edges.Goals as goal

pub edges-init : goal.edges-init
edges-init c = λ earlier found.
    subst (λ (l : List Edge). HasFound (c.args.all.now.labels.now ++ c.args.all.now.new_labels.now) l c.args.self.now) (sym (append-nil earlier)) found

pub returns : goal.returns
returns c = λ earlier found.
    subst (λ (l : List Edge). HasFound (c.args.all.now.labels.now ++ c.args.all.now.new_labels.now) (earlier ++ l) c.edges.self)
    (take_all c.edges.edge-index c.args.edges.now c.edges-test.false) (c.edges.invariant earlier found)
