use Rattle.std.proofs.Common.{◌↔◌, IsTrue, subst}
use Rattle.lorel_trees.specs.Trees.{select_tree}
use Rattle.live_views.specs.Views.{View}
use Rattle.live_views.specs.Concerns.{Concerns}
use Rattle.live_views.proofs.view.View.is_concerned.Goals as goal

pub returns : goal.returns
returns c = λ labels delta by.
    subst (λ (view : View). IsTrue c.are_touched.result ↔ Concerns labels (select_tree view.select) delta) c.self.view_is
    (c.are_touched.ensures (select_tree c.self.inside.select) labels delta c.self.invariant by)
