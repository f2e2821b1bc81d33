-- What a literal makes is what its layout makes; and edges of one numbering moved to another.
use Rattle.std.proofs.Common.{◌≡◌, ℕ, ◌+◌, List, [], ◌∷◌, map, refl, ap, ◌∙◌, arith}
use Rattle.list_laws.proofs.PartLaws.{map-map}
use Rattle.oem_text.specs.Types.{Edge}
use Rattle.lore_base.specs.Walks.{oid_of, edge_of}
use Rattle.lorel_trees.specs.Trees.{LiteralTree}
use Rattle.oem_text.specs.Literals.{bodies, arcs_of, labels_of, numbered, edges_of, objects_of}
use Rattle.oem_text.specs.Layouts.{PlacedArc, LaidOut, layout_of, placed_arc, texts_of, edge_from, edges_from}

pub map-agree : {X Y : Type 0} (f g : X → Y) → ((x : X) → f x ≡ g x) → (xs : List X) → map f xs ≡ map g xs
map-agree f g same [] = refl
map-agree f g same (x ∷ xs) = ap (λ y. y ∷ map f xs) (same x) ∙ ap (λ l. g x ∷ l) (map-agree f g same xs)

pub edges-of_layout : (next : ℕ) (table : List (List ℕ)) (literal : LiteralTree) → edges_from next table (layout_of literal) ≡ edges_of next table literal
edges-of_layout next table literal = map-map (placed_arc (bodies literal)) (edge_from next table) (arcs_of literal)

pub texts-of_layout : (literal : LiteralTree) → texts_of (layout_of literal) ≡ labels_of literal
texts-of_layout literal = map-map (placed_arc (bodies literal)) (λ (arc : PlacedArc). arc.label) (arcs_of literal)

pub objects-of_layout : (next : ℕ) (literal : LiteralTree) → numbered next (layout_of literal).values ≡ objects_of next literal
objects-of_layout next literal = refl

-- an edge between places, where the object at place 0 has this number
abbrev pub moved : ℕ → Edge → Edge
moved base edge = edge_of (oid_of (base + edge.parent.0)) edge.label (oid_of (base + edge.child.0))

pub edges-moved : (base : ℕ) (table : List (List ℕ)) (layout : LaidOut) → map (moved base) (edges_from 0 table layout) ≡ edges_from base table layout
edges-moved base table layout =
    map-map (edge_from 0 table) (moved base) layout.arcs
    ∙ map-agree (λ (arc : PlacedArc). moved base (edge_from 0 table arc)) (edge_from base table)
    (λ arc.
    let parent : base + (0 + arc.parent) ≡ base + arc.parent = omega arith in
    let child : base + (0 + arc.child) ≡ base + arc.child = omega arith in
    cc)
    layout.arcs
