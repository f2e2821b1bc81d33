use Rattle.std.proofs.Common.{◌≡◌, [], ◌∷◌, ◌∙◌, ap, subst}
use Rattle.std.specs.Result.{OnOk}
use Rattle.lore_base.specs.Databases.{OemGraph}
use Rattle.doem_history.specs.Moments.{Moment, moment_of, IsFull}
use Rattle.kept_history.specs.Kept.{present}
use Rattle.kept_history.proofs.beginning.begun.Goals as goal

pub returns-clause-light : goal.returns-clause-light
returns-clause-light c =
    let graph = c.graph-graph.ensures.graph in
    let names = c.names.ensures ∙ ap (λ (g : OemGraph). g.names) graph in
    let objects = c.in-Ok.ensures ∙ ap (λ (g : OemGraph). g.objects) graph in
    let same : moment_of c.names.result.now c.in-Ok.objects c.args.edges.now ≡ present c.args.store.now.db =
    λ k. moment_of (names k) (objects k) (c.requires.edges k) in
    subst (λ (m : Moment). OnOk c.start.result (IsFull (m ∷ []) → ⊥)) same c.start.ensures.ok
