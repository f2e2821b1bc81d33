use Rattle.std.proofs.Common.{sym}
use Rattle.edge_layers.proofs.SearchLaws.{listed, not_listed, found_edge, none_found}
use Rattle.edge_layers.proofs.edge_sets.is_kept.Goals as goal

pub returns-in-Ok : goal.returns-in-Ok
returns-in-Ok c = sym (listed _ _ (found_edge _ _ _ _ c.in-Ok.ensures.bound (c.in-Ok.ensures.position c.args.edge.now)))

pub returns-in-Err : goal.returns-in-Err
returns-in-Err c = sym (not_listed _ _ (none_found _ c.requires _ _ c.in-Err.ensures.position))
