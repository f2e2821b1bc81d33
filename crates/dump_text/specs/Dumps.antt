-- The dump of a database: the tree that stands for it, the lines of a tree, without line ends, and what is printed.
use Rattle.std.specs.Prelude.{◌≡◌, ◌≢◌, ◌⊎◌, ℕ, ℤ, pos, Bool, List, [], ◌∷◌, ◌++◌, map, slice_get, codes, All}
use Rattle.std.specs.Option.{unwrap_or}
use Rattle.std.specs.List.{flat_map}
use Rattle.std.specs.Fmt.{decimal, signed_decimal}
use Rattle.dump_text.specs.Types.{Oid, Label, Edge, Value, Flag, Mode, Auto, Top, Bottom, Guided, DumpTree}
use Rattle.lore_base.specs.Databases.{Database}
use Rattle.lore_base.specs.Printed.{printed, label_text}

-- Trees.

-- the text of a label
abbrev pub table_text : List (List ℕ) → Label → List ℕ
table_text labels label = unwrap_or (slice_get labels label.0) []

-- an edge with the text of its label
abbrev pub spelled_edge : List (List ℕ) → Edge → Oid × List ℕ × Oid
spelled_edge labels edge = (edge.parent, table_text labels edge.label, edge.child)

-- the tree of a database: all of it, labels that no edge has too
abbrev pub dump_tree : Database → DumpTree
dump_tree db = record {
  version = pos 2;
  next = pos db.graph.next;
  nodes = pos db.nodes;
  mode = db.mode;
  labels = db.labels;
  names = db.graph.names;
  objects = db.graph.objects;
  edges = map (spelled_edge db.labels) db.graph.edges;
}

-- Versions: 2 is the one that is written. Version 1 has no flags.
abbrev pub HasNoFlags : List (Oid × Value) → Type 0
HasNoFlags objects = All (λ object. (flag : Bool) → object.1 ≢ Flag flag) objects

-- the version is read
abbrev pub IsVersion : DumpTree → Type 0
IsVersion tree = (tree.version ≡ pos 2) ⊎ ((tree.version ≡ pos 1) × HasNoFlags tree.objects)

-- the tree in the version that is written
abbrev pub in_version_two : DumpTree → DumpTree
in_version_two tree = record {
  version = pos 2;
  next = tree.next;
  nodes = tree.nodes;
  mode = tree.mode;
  labels = tree.labels;
  names = tree.names;
  objects = tree.objects;
  edges = tree.edges;
}

-- Lines.

-- a word and what stands behind it
abbrev pub line_of : (word behind : List ℕ) → List ℕ
line_of word behind = word ++ 32 ∷ behind

abbrev pub oid_text : Oid → List ℕ
oid_text oid = 38 ∷ decimal oid.0

abbrev pub mode_text : Mode → List ℕ
mode_text Auto = codes "auto"
mode_text Top = codes "top"
mode_text Bottom = codes "bottom"
mode_text Guided = codes "guide"

abbrev pub label_line : List ℕ → List ℕ
label_line label = line_of (codes "label") (label_text label)

abbrev pub name_line : List ℕ × Oid → List ℕ
name_line entry = line_of (codes "name") (line_of entry.0 (oid_text entry.1))

abbrev pub object_line : Oid × Value → List ℕ
object_line entry = line_of (codes "object") (line_of (oid_text entry.0) (printed entry.1))

abbrev pub edge_line : Oid × List ℕ × Oid → List ℕ
edge_line entry =
    line_of (codes "edge") (line_of (oid_text entry.0) (line_of (label_text entry.1) (oid_text entry.2)))

-- the version, the next number, the node limit and the plan mode
abbrev pub head_lines : (version next nodes : ℤ) → Mode → List (List ℕ)
head_lines version next nodes mode =
    line_of (codes "oem") (signed_decimal version) ∷ line_of (codes "next") (signed_decimal next)
    ∷ line_of (codes "nodes") (signed_decimal nodes) ∷ line_of (codes "plan") (mode_text mode) ∷ []

abbrev pub dump_lines : DumpTree → List (List ℕ)
dump_lines tree =
    head_lines tree.version tree.next tree.nodes tree.mode
    ++ (map label_line tree.labels ++ (map name_line tree.names ++ (map object_line tree.objects
    ++ (map edge_line tree.edges ++ codes "end" ∷ []))))

-- What is printed.

-- a line with its end
abbrev pub ended : List ℕ → List ℕ
ended line = line ++ codes "\n"

-- lines as they are printed
abbrev pub ended_lines : List (List ℕ) → List ℕ
ended_lines lines = flat_map ended lines

-- what `dump` prints
abbrev pub printed_dump : Database → List ℕ
printed_dump db = ended_lines (dump_lines (dump_tree db))
