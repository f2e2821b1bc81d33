use Rattle.std.proofs.Common.{◌∙◌}
use Rattle.edge_layers.proofs.LayerLaws.{ascend-staying}
use Rattle.edge_layers.proofs.edge_sets.layered_run.Goals as goal

pub joined-requires-clause-first : goal.joined-requires-clause-first
joined-requires-clause-first c = rw (c.as_slice.ensures ∙ c.in_ok-stay.ensures) (ascend-staying _ _ c.requires.kept)

pub returns : goal.returns
returns c = rw (c.as_slice.ensures ∙ c.in_ok-stay.ensures) at c.in_ok-run.ensures
