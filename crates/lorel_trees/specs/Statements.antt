-- Dump texts and statements of the grammar: for each derivation its tokens with those that follow, its tree,
-- and how deep it nests.
use Rattle.std.specs.Prelude.{ℕ, max, Bool, true, false, List, ◌∷◌, codes, map}
use Rattle.lorel_trees.specs.Types.{Oid, Value, Mode, Auto, Top, Bottom, Guided, Kind}
use Rattle.lorel_tokens.specs.declared.token_types.Kind.TheVariants as k
use Rattle.lorel_tokens.specs.declared.token_types.Sign.TheVariants as s
use Rattle.lorel_trees.specs.declared.dump_trees.DumpTree.{DumpTree}
use Rattle.lorel_trees.specs.Trees as t
use Rattle.lorel_trees.specs.Grammar as g
use Rattle.lorel_trees.specs.Repetitions.{spell_each}
use Rattle.lorel_trees.specs.Paths.{spell_name, text_of_name, spell_label, text_of_label, spell_label_path, texts_of_labels, spell_path, tree_path, nest_path}
use Rattle.lorel_trees.specs.Literals.{spell_value, spell_literal, tree_literal, nest_literal}
use Rattle.lorel_trees.specs.Selects.{spell_tail, tree_tail, nest_tail, spell_select, tree_select, nest_select, spell_paths, tree_paths, nest_paths}

-- dump texts

abbrev pub spell_mode : Mode → List Kind → List Kind
spell_mode Auto rest = k.Word (codes "auto") ∷ rest
spell_mode Top rest = k.Word (codes "top") ∷ rest
spell_mode Bottom rest = k.Word (codes "bottom") ∷ rest
spell_mode Guided rest = k.Word (codes "guide") ∷ rest

-- an object by its number
abbrev pub spell_oid : Oid → List Kind → List Kind
spell_oid oid rest = k.Local oid.0 ∷ rest

-- a name, an object and an edge, each behind its word

abbrev pub spell_dump_name : g.Name × Oid → List Kind → List Kind
spell_dump_name entry rest = spell_name entry.0 (spell_oid entry.1 rest)

abbrev pub spell_dump_object : Oid × Value → List Kind → List Kind
spell_dump_object entry rest = spell_oid entry.0 (spell_value entry.1 rest)

abbrev pub spell_dump_edge : Oid × g.Label × Oid → List Kind → List Kind
spell_dump_edge entry rest = spell_oid entry.0 (spell_label entry.1 (spell_oid entry.2 rest))

abbrev pub entry_of_name : g.Name × Oid → List ℕ × Oid
entry_of_name entry = (text_of_name entry.0, entry.1)

abbrev pub entry_of_edge : Oid × g.Label × Oid → Oid × List ℕ × Oid
entry_of_edge entry = (entry.0, text_of_label entry.1, entry.2)

-- { "label" label } { "name" name local } { "object" local ( atom | "{" "}" ) } { "edge" local label local }

abbrev pub spell_dump_labels : List g.Label → List Kind → List Kind
spell_dump_labels labels rest = spell_each (k.Word (codes "label")) spell_label labels rest

abbrev pub spell_dump_names : List (g.Name × Oid) → List Kind → List Kind
spell_dump_names names rest = spell_each (k.Word (codes "name")) spell_dump_name names rest

abbrev pub spell_dump_objects : List (Oid × Value) → List Kind → List Kind
spell_dump_objects objects rest = spell_each (k.Word (codes "object")) spell_dump_object objects rest

abbrev pub spell_dump_edges : List (Oid × g.Label × Oid) → List Kind → List Kind
spell_dump_edges edges rest = spell_each (k.Word (codes "edge")) spell_dump_edge edges rest

abbrev pub spell_dump_text : g.DumpText → List Kind → List Kind
spell_dump_text (g.dump_text version next nodes mode labels names objects edges) rest =
    k.Word (codes "oem") ∷ k.Number version ∷ k.Word (codes "next") ∷ k.Number next
    ∷ k.Word (codes "nodes") ∷ k.Number nodes ∷ k.Word (codes "plan") ∷ spell_mode mode
    (spell_dump_labels labels (spell_dump_names names (spell_dump_objects objects (spell_dump_edges edges
    (k.Word (codes "end") ∷ rest)))))

abbrev pub tree_dump_text : g.DumpText → DumpTree
tree_dump_text (g.dump_text version next nodes mode labels names objects edges) = record {
  version = version;
  next = next;
  nodes = nodes;
  mode = mode;
  labels = map text_of_label labels;
  names = map entry_of_name names;
  objects = objects;
  edges = map entry_of_edge edges;
}

-- what `+=` adds

abbrev pub spell_addition : g.Addition → List Kind → List Kind
spell_addition (g.fresh literal) rest = spell_literal literal rest
spell_addition (g.link path) rest = spell_path path rest

abbrev pub tree_addition : t.RootedTree → List ℕ → g.Addition → t.TailTree → t.StatementTree
tree_addition target name (g.fresh literal) end = t.add_new target name (tree_literal literal) end
tree_addition target name (g.link path) end = t.add_link target name (tree_path path) end

abbrev pub nest_addition : g.Addition → ℕ
nest_addition (g.fresh literal) = nest_literal literal
nest_addition (g.link path) = nest_path path

-- "on" | "off"
abbrev pub switch_text : Bool → List ℕ
switch_text true = codes "on"
switch_text false = codes "off"

-- statements

abbrev pub tree_label_path : (List ℕ → List (List ℕ) → t.StatementTree) → g.LabelPath → t.StatementTree
tree_label_path statement (g.walked name labels) = statement (text_of_name name) (texts_of_labels labels)

abbrev pub spell_statement : g.Statement → List Kind → List Kind
spell_statement (g.load name literal) rest =
    k.Word (codes "load") ∷ spell_name name (k.Symbol s.Assign ∷ spell_literal literal rest)
spell_statement (g.bind name path) rest =
    k.Word (codes "name") ∷ spell_name name (k.Symbol s.Assign ∷ spell_path path rest)
spell_statement (g.unname name) rest = k.Word (codes "unname") ∷ spell_name name rest
spell_statement (g.assign target value end) rest =
    k.Word (codes "update") ∷ spell_path target (k.Symbol s.Assign ∷ spell_value value (spell_tail end rest))
spell_statement (g.add target name addition end) rest =
    k.Word (codes "update") ∷ spell_path target (k.Symbol s.Dot ∷ spell_label name (k.Symbol s.PlusAssign
    ∷ spell_addition addition (spell_tail end rest)))
spell_statement (g.remove target name right end) rest =
    k.Word (codes "update") ∷ spell_path target (k.Symbol s.Dot ∷ spell_label name (k.Symbol s.MinusAssign
    ∷ spell_path right (spell_tail end rest)))
spell_statement (g.select inner) rest = spell_select inner rest
spell_statement (g.explain inner) rest = k.Word (codes "explain") ∷ spell_select inner rest
spell_statement g.guide rest = k.Word (codes "guide") ∷ rest
spell_statement (g.browse path) rest = k.Word (codes "browse") ∷ spell_label_path path rest
spell_statement (g.sample path count) rest =
    k.Word (codes "sample") ∷ spell_label_path path (k.Number count ∷ rest)
spell_statement (g.set_nodes nodes) rest =
    k.Word (codes "set") ∷ k.Word (codes "nodes") ∷ k.Number nodes ∷ rest
spell_statement (g.set_plan mode) rest = k.Word (codes "set") ∷ k.Word (codes "plan") ∷ spell_mode mode rest
spell_statement g.dump rest = k.Word (codes "dump") ∷ rest
spell_statement (g.restore text) rest = k.Word (codes "restore") ∷ spell_dump_text text rest
spell_statement (g.generate seed count) rest =
    k.Word (codes "generate") ∷ k.Number seed ∷ k.Number count ∷ rest
spell_statement (g.history on) rest = k.Word (codes "history") ∷ k.Word (switch_text on) ∷ rest
spell_statement (g.select_at moment inner) rest =
    k.Word (codes "at") ∷ k.Number moment ∷ spell_select inner rest
spell_statement (g.changes first last) rest =
    k.Word (codes "changes") ∷ k.Number first ∷ k.Number last ∷ rest
spell_statement g.blocks rest = k.Word (codes "blocks") ∷ rest
spell_statement (g.blocks_of inner) rest = k.Word (codes "blocks") ∷ spell_select inner rest
spell_statement (g.watch name inner) rest =
    k.Word (codes "watch") ∷ spell_name name (k.Symbol s.Assign ∷ spell_paths inner rest)
spell_statement (g.unwatch name) rest = k.Word (codes "unwatch") ∷ spell_name name rest
spell_statement (g.show name) rest = k.Word (codes "show") ∷ spell_name name rest

abbrev pub tree_statement : g.Statement → t.StatementTree
tree_statement (g.load name literal) = t.load (text_of_name name) (tree_literal literal)
tree_statement (g.bind name path) = t.bind (text_of_name name) (tree_path path)
tree_statement (g.unname name) = t.unname (text_of_name name)
tree_statement (g.assign target value end) = t.assign (tree_path target) value (tree_tail end)
tree_statement (g.add target name addition end) =
    tree_addition (tree_path target) (text_of_label name) addition (tree_tail end)
tree_statement (g.remove target name right end) =
    t.remove (tree_path target) (text_of_label name) (tree_path right) (tree_tail end)
tree_statement (g.select inner) = t.select (tree_select inner)
tree_statement (g.explain inner) = t.explain (tree_select inner)
tree_statement g.guide = t.guide
tree_statement (g.browse path) = tree_label_path t.browse path
tree_statement (g.sample path count) = tree_label_path (λ start labels. t.sample start labels count) path
tree_statement (g.set_nodes nodes) = t.set_nodes nodes
tree_statement (g.set_plan mode) = t.set_plan mode
tree_statement g.dump = t.dump
tree_statement (g.restore text) = t.restore (tree_dump_text text)
tree_statement (g.generate seed count) = t.generate seed count
tree_statement (g.history on) = t.history on
tree_statement (g.select_at moment inner) = t.select_at moment (tree_select inner)
tree_statement (g.changes first last) = t.changes first last
tree_statement g.blocks = t.blocks
tree_statement (g.blocks_of inner) = t.blocks_of (tree_select inner)
tree_statement (g.watch name inner) = t.watch (text_of_name name) (tree_paths inner)
tree_statement (g.unwatch name) = t.unwatch (text_of_name name)
tree_statement (g.show name) = t.show (text_of_name name)

abbrev pub nest_statement : g.Statement → ℕ
nest_statement (g.load name literal) = nest_literal literal
nest_statement (g.bind name path) = nest_path path
nest_statement (g.unname name) = 0
nest_statement (g.assign target value end) = max (nest_path target) (nest_tail end)
nest_statement (g.add target name addition end) =
    max (max (nest_path target) (nest_addition addition)) (nest_tail end)
nest_statement (g.remove target name right end) =
    max (max (nest_path target) (nest_path right)) (nest_tail end)
nest_statement (g.select inner) = nest_select inner
nest_statement (g.explain inner) = nest_select inner
nest_statement g.guide = 0
nest_statement (g.browse path) = 0
nest_statement (g.sample path count) = 0
nest_statement (g.set_nodes nodes) = 0
nest_statement (g.set_plan mode) = 0
nest_statement g.dump = 0
nest_statement (g.restore text) = 0
nest_statement (g.generate seed count) = 0
nest_statement (g.history on) = 0
nest_statement (g.select_at moment inner) = nest_select inner
nest_statement (g.changes first last) = 0
nest_statement g.blocks = 0
nest_statement (g.blocks_of inner) = nest_select inner
nest_statement (g.watch name inner) = nest_paths inner
nest_statement (g.unwatch name) = 0
nest_statement (g.show name) = 0
