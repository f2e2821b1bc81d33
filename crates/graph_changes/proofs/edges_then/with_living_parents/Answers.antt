use Rattle.std.proofs.Common.{List, sym, ap, ◌∙◌}
use Rattle.graph_changes.specs.Types.{Oid}
use Rattle.graph_changes.specs.Left.{edges_left}
use Rattle.edge_layers.proofs.LayerLaws.{none_there}
use Rattle.graph_changes.proofs.LeftLaws.{all-edges-left}
use Rattle.graph_changes.proofs.edges_then.with_living_parents.Goals as goal

pub returns-then-is_empty : goal.returns-then-is_empty
returns-then-is_empty c =
    let none = none_there c.args.dead.now c.is_empty.result c.is_empty.ensures c.if-is_empty.true in
    sym (ap (λ (d : List Oid). edges_left d c.args.edges) none ∙ all-edges-left c.args.edges)
