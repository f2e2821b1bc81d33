use Rattle.std.proofs.Common.{◌++◌}
use Rattle.lorel_trees.specs.Trees.{select_tree}
use Rattle.live_views.specs.Views.{View}
use Rattle.live_views.specs.Concerns.{Concerns}
use Rattle.live_views.proofs.MarkLaws.{AreMarked}
use Rattle.live_views.proofs.views.Views.marks.Given as goal

abbrev pub invariant-views : goal.invariant-views
invariant-views l =
    AreMarked (λ (view : View). Concerns (l.fn.labels ++ l.fn.new_labels) (select_tree view.select) l.fn.delta) l.fn.self l.name-iterator l.names
