use Rattle.std.proofs.Common.{ℕ, sym, ap, ◌∙◌}
use Rattle.set_explorer.specs.Types.{Kept}
use Rattle.set_explorer.specs.Nodes.{node_number}
use Rattle.set_explorer.proofs.FillLaws.{sets-put}
use Rattle.set_explorer.proofs.fill.take_set.Goals as goal

pub returns-in-Kept-clause-others : goal.returns-in-Kept-clause-others
returns-in-Kept-clause-others c = λ k apart.
    sets-put c.args.old.now.items c.in-Kept.node.0 _ k
    (λ same. apart (c.in-Kept.is ∙ ap (λ (j : ℕ). Kept (node_number j)) (sym same)))
