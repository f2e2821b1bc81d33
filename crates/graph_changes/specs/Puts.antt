-- Objects and edges put into ascending lists, each at its place.
use Rattle.std.specs.Prelude.{cond, nat_eq, nat_lt, List, [], ◌∷◌}
use Rattle.std.specs.Ordering.{is_lt}
use Rattle.lore_base.specs.Walks.{edge_cmp}
use Rattle.graph_changes.specs.Types.{Oid, Edge, Value}

-- Objects.

-- the objects with one more at its place, or with its value where it is there
abbrev pub with_object : List (Oid × Value) → Oid × Value → List (Oid × Value)
with_object [] given = given ∷ []
with_object (first ∷ objects) given =
    cond (nat_lt first.0.0 given.0.0) (first ∷ with_object objects given)
    (cond (nat_eq first.0.0 given.0.0) (given ∷ objects) (given ∷ first ∷ objects))

abbrev pub with_objects : List (Oid × Value) → List (Oid × Value) → List (Oid × Value)
with_objects objects [] = objects
with_objects objects (given ∷ others) = with_objects (with_object objects given) others

-- Edges.

-- the edges with one more, before the first that isn't below it; one that is there already stands there twice then
abbrev pub put_edge : List Edge → Edge → List Edge
put_edge [] edge = edge ∷ []
put_edge (first ∷ edges) edge = cond (is_lt (edge_cmp first edge)) (first ∷ put_edge edges edge) (edge ∷ first ∷ edges)

abbrev pub put_edges : List Edge → List Edge → List Edge
put_edges edges [] = edges
put_edges edges (edge ∷ others) = put_edges (put_edge edges edge) others
