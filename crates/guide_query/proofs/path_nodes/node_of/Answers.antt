use Rattle.std.proofs.Common.{List, ℕ, subst, sym, ◌∙◌}
use Rattle.guide_query.specs.inside.PathNodes.{IsNodeOf, HasComeTo}
use Rattle.guide_query.specs.PathLines.{IsWalkedTo}
use Rattle.guide_query.proofs.PathLaws.{start_none, start_some}
use Rattle.guide_query.proofs.path_nodes.node_of.Goals as goal

pub returns-in-Some : goal.returns-in-Some
returns-in-Some c = λ names edges is.
    let guide = c.args.guide.now in
    let labels = c.args.labels.now in
    let path = c.args.path.now in
    let start =
    start_some guide labels names edges is path.start path.labels c.in-Some.start (sym c.entry.ensures ∙ c.in-Some.is) in
    let along =
    subst (λ (texts : List (List ℕ)). HasComeTo guide.nodes names edges labels path.start texts texts c.in-Some.start
    → IsNodeOf guide.nodes (IsWalkedTo names edges labels path.start texts) c.node_along.result)
    c.as_slice.ensures (λ come. c.node_along.ensures names edges path.start is come) in
    along start

pub returns-in-None : goal.returns-in-None
returns-in-None c = λ names edges is.
    start_none c.args.guide.now c.args.labels.now names edges is c.args.path.now.start c.args.path.now.labels
    (sym c.entry.ensures ∙ c.in-None.is)
