use Rattle.std.proofs.Common.{map, ap, ◌∙◌}
use Rattle.std.proofs.lemmas.List.{take_all}
use Rattle.set_explorer.specs.Types.{Node, Label, Origin, Kept}
use Rattle.set_explorer.proofs.explore.kept_targets.Goals as goal

abbrev as_kept : Label × Node → Label × Origin
as_kept edge = (edge.0, Kept edge.1)

pub returns : goal.returns
returns c = c.edges.invariant ∙ ap (map as_kept) (take_all c.edges.edge-index c.args.edges.now c.edges-test.false)
