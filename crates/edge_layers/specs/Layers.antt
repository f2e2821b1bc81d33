-- Edges in layers: those that are kept, without some of them, and with others.
use Rattle.std.specs.Prelude.{List, [], ◌∷◌, filter, not}
use Rattle.std.specs.BTreeSet.{insert_key}
use Rattle.edge_layers.specs.Types.{Edge}
use Rattle.lore_base.specs.Walks.{edge_cmp}
use Rattle.edge_layers.specs.EdgeTests.{is_listed}

-- the edges that stay where some are lost
abbrev pub staying : List Edge → List Edge → List Edge
staying lost kept = filter (λ edge. not (is_listed lost edge)) kept

-- the edges with others put at their places
abbrev pub with_edges : List Edge → List Edge → List Edge
with_edges edges [] = edges
with_edges edges (edge ∷ others) = with_edges (insert_key edge_cmp edges edge) others

-- the edges that are kept, without the lost ones and with the fresh ones
abbrev pub layered : List Edge → List Edge → List Edge → List Edge
layered kept lost fresh = with_edges (staying lost kept) fresh
