-- Dump texts and statements as they are read.
use Rattle.std.specs.Prelude.{ℕ, ℤ, Bool, true, false, if◌then◌else◌, List, [], codes, Option, Some, None}
use Rattle.std.specs.List.{list_all}
use Rattle.std.specs.Str.{bytes_eq}
use Rattle.lore_base.specs.declared.limits.TheConstants.{NESTING}
use Rattle.lore_base.specs.declared.edges.Oid.{Oid}
use Rattle.lore_base.specs.declared.values.Value.{Value}
use Rattle.lore_base.specs.declared.modes.Mode.{Mode}
use Rattle.lore_base.specs.declared.modes.Mode.TheVariants.{Auto, Top, Bottom, Guided}
use Rattle.lorel_tokens.specs.declared.token_types.Kind.{Kind}
use Rattle.lorel_tokens.specs.declared.token_types.Kind.TheVariants as k
use Rattle.lorel_tokens.specs.declared.token_types.Sign.TheVariants as s
use Rattle.lorel_trees.specs.declared.dump_trees.DumpTree.{DumpTree}
use Rattle.lorel_trees.specs.Trees as t
use Rattle.lorel_trees.specs.Trees.{RootedTree, StatementTree}
use Rattle.lorel_terms.specs.Outcomes.{Parse, and_then, next, sees, sees_word, expect, found, token}
use Rattle.lorel_terms.specs.Repetitions.{mapped, both, behind_sign, behind_word, closed_word, each}
use Rattle.lorel_terms.specs.Names.{name, label, sees_name}
use Rattle.lorel_terms.specs.Literals.{local, new_value, literal, inside}
use Rattle.lorel_terms.specs.Paths.{rooted}
use Rattle.lorel_parse.specs.inside.Targets.{aimed}
use Rattle.lorel_terms.specs.Selects as q
use Rattle.lorel_terms.specs.Selects.{tail}

abbrev pub number_of : Kind → Option ℤ
number_of (k.Number value) = Some value
number_of _ = None

abbrev pub word_of : Kind → Option (List ℕ)
word_of (k.Word text) = Some text
word_of _ = None

unfoldable pub number : Parse ℤ
number = token number_of

unfoldable pub word : Parse (List ℕ)
word = token word_of

unfoldable pub mode : Parse Mode
mode kinds =
    if sees_word (codes "auto") kinds then Some (Auto, next kinds)
    else (if sees_word (codes "top") kinds then Some (Top, next kinds)
    else (if sees_word (codes "bottom") kinds then Some (Bottom, next kinds)
    else (if sees_word (codes "guide") kinds then Some (Guided, next kinds) else None)))

-- label paths

unfoldable pub labels : List (List ℕ) → Parse (List (List ℕ))
labels = each (sees s.Dot) label

unfoldable pub label_path : Parse (List ℕ × List (List ℕ))
label_path = both name (labels [])

-- dump texts

abbrev pub oid_of : ℕ → Oid
oid_of id = record { 0 = id }

unfoldable pub oid : Parse Oid
oid = mapped oid_of local

unfoldable pub dump_name : Parse (List ℕ × Oid)
dump_name = both name oid

unfoldable pub dump_object : Parse (Oid × Value)
dump_object = both oid new_value

abbrev pub edge_of : Oid × (List ℕ × Oid) → Oid × List ℕ × Oid
edge_of parts = (parts.0, parts.1.0, parts.1.1)

unfoldable pub dump_edge : Parse (Oid × List ℕ × Oid)
dump_edge = mapped edge_of (both oid (both label oid))

unfoldable pub dump_labels : List (List ℕ) → Parse (List (List ℕ))
dump_labels = each (sees_word (codes "label")) label

unfoldable pub dump_names : List (List ℕ × Oid) → Parse (List (List ℕ × Oid))
dump_names = each (sees_word (codes "name")) dump_name

unfoldable pub dump_objects : List (Oid × Value) → Parse (List (Oid × Value))
dump_objects = each (sees_word (codes "object")) dump_object

unfoldable pub dump_edges : List (Oid × List ℕ × Oid) → Parse (List (Oid × List ℕ × Oid))
dump_edges = each (sees_word (codes "edge")) dump_edge

-- a word and its number
unfoldable pub counted : List ℕ → Parse ℤ
counted wanted = behind_word wanted number

-- version, next object, limit of nodes and mode
abbrev pub Head : Type 0
Head = ℤ × (ℤ × (ℤ × Mode))

unfoldable pub head : Parse Head
head = both (counted (codes "oem")) (both (counted (codes "next"))
    (both (counted (codes "nodes")) (behind_word (codes "plan") mode)))

-- labels, names, objects and edges up to `end`
abbrev pub Lists : Type 0
Lists = List (List ℕ) × (List (List ℕ × Oid) × (List (Oid × Value) × List (Oid × List ℕ × Oid)))

unfoldable pub lists : Parse Lists
lists = both (dump_labels []) (both (dump_names []) (both (dump_objects []) (dump_edges [])))

abbrev pub dump_of : Head × Lists → DumpTree
dump_of parts = record {
  version = parts.0.0;
  next = parts.0.1.0;
  nodes = parts.0.1.1.0;
  mode = parts.0.1.1.1;
  labels = parts.1.0;
  names = parts.1.1.0;
  objects = parts.1.1.1.0;
  edges = parts.1.1.1.1;
}

unfoldable pub dump_text : Parse DumpTree
dump_text = closed_word (codes "end") (mapped dump_of (both head lists))

-- each form behind its first word

unfoldable pub load : Parse StatementTree
load = mapped (λ parts. t.load parts.0 parts.1) (both name (behind_sign s.Assign (literal (inside NESTING))))

unfoldable pub bind : Parse StatementTree
bind = mapped (λ parts. t.bind parts.0 parts.1) (both name (behind_sign s.Assign (rooted NESTING)))

unfoldable pub unname : Parse StatementTree
unname = mapped t.unname name

unfoldable pub assigned : RootedTree → Parse StatementTree
assigned target = mapped (λ parts. t.assign target parts.0 parts.1) (both new_value tail)

-- a path begins with a name, and no literal does
unfoldable pub added : RootedTree → List ℕ → Parse StatementTree
added target text kinds =
    if sees_name kinds then
    mapped (λ parts. t.add_link target text parts.0 parts.1) (both (rooted NESTING) tail) kinds
    else mapped (λ parts. t.add_new target text parts.0 parts.1) (both (literal (inside NESTING)) tail) kinds

unfoldable pub removed : RootedTree → List ℕ → Parse StatementTree
removed target text = mapped (λ parts. t.remove target text parts.0 parts.1) (both (rooted NESTING) tail)

-- what stands behind the path of an update
unfoldable pub changed : RootedTree → Parse StatementTree
changed path kinds =
    if sees s.Assign kinds then assigned path (next kinds)
    else (if sees s.PlusAssign kinds then
    and_then (found (aimed path) (next kinds)) (λ aim. added aim.0 aim.1)
    else and_then (expect s.MinusAssign kinds) (λ _ rest.
    and_then (found (aimed path) rest) (λ aim. removed aim.0 aim.1)))

unfoldable pub update : Parse StatementTree
update kinds = and_then (rooted NESTING kinds) changed

unfoldable pub select : Parse StatementTree
select = mapped t.select q.select

unfoldable pub explain : Parse StatementTree
explain = mapped t.explain (behind_word (codes "select") q.select)

unfoldable pub browse : Parse StatementTree
browse = mapped (λ path. t.browse path.0 path.1) label_path

unfoldable pub sample : Parse StatementTree
sample = mapped (λ parts. t.sample parts.0.0 parts.0.1 parts.1) (both label_path number)

unfoldable pub set : Parse StatementTree
set kinds =
    if sees_word (codes "nodes") kinds then mapped t.set_nodes number (next kinds)
    else mapped t.set_plan (behind_word (codes "plan") mode) kinds

unfoldable pub restore : Parse StatementTree
restore = mapped t.restore dump_text

unfoldable pub generate : Parse StatementTree
generate = mapped (λ parts. t.generate parts.0 parts.1) (both number number)

unfoldable pub switch : Parse Bool
switch kinds =
    if sees_word (codes "on") kinds then Some (true, next kinds)
    else (if sees_word (codes "off") kinds then Some (false, next kinds) else None)

unfoldable pub history : Parse StatementTree
history = mapped t.history switch

unfoldable pub select_at : Parse StatementTree
select_at =
    mapped (λ parts. t.select_at parts.0 parts.1) (both number (behind_word (codes "select") q.select))

unfoldable pub changes : Parse StatementTree
changes = mapped (λ parts. t.changes parts.0 parts.1) (both number number)

unfoldable pub blocks : Parse StatementTree
blocks kinds =
    if sees_word (codes "select") kinds then mapped t.blocks_of q.select (next kinds)
    else Some (t.blocks, kinds)

abbrev pub is_object : t.ItemTree → Bool
is_object (t.object path) = true
is_object (t.path_of variable) = false

-- a name and a select whose items are paths alone
abbrev pub watching : List ℕ × t.SelectTree → Option StatementTree
watching parts = if list_all is_object parts.1.items then Some (t.watch parts.0 parts.1) else None

unfoldable pub watch : Parse StatementTree
watch kinds =
    and_then (both name (behind_sign s.Assign (behind_word (codes "select") q.select)) kinds)
    (λ parts. found (watching parts))

unfoldable pub unwatch : Parse StatementTree
unwatch = mapped t.unwatch name

unfoldable pub show : Parse StatementTree
show = mapped t.show name

-- the form that this word begins, by what the form does

unfoldable pub keeping : List ℕ → Parse StatementTree
keeping first kinds =
    if bytes_eq first (codes "history") then history kinds
    else (if bytes_eq first (codes "at") then select_at kinds
    else (if bytes_eq first (codes "changes") then changes kinds
    else (if bytes_eq first (codes "blocks") then blocks kinds
    else (if bytes_eq first (codes "watch") then watch kinds
    else (if bytes_eq first (codes "unwatch") then unwatch kinds
    else (if bytes_eq first (codes "show") then show kinds else None))))))

unfoldable pub administering : List ℕ → Parse StatementTree
administering first kinds =
    if bytes_eq first (codes "set") then set kinds
    else (if bytes_eq first (codes "dump") then Some (t.dump, kinds)
    else (if bytes_eq first (codes "restore") then restore kinds
    else (if bytes_eq first (codes "generate") then generate kinds else keeping first kinds)))

unfoldable pub asking : List ℕ → Parse StatementTree
asking first kinds =
    if bytes_eq first (codes "select") then select kinds
    else (if bytes_eq first (codes "explain") then explain kinds
    else (if bytes_eq first (codes "guide") then Some (t.guide, kinds)
    else (if bytes_eq first (codes "browse") then browse kinds
    else (if bytes_eq first (codes "sample") then sample kinds else administering first kinds))))

unfoldable pub changing : List ℕ → Parse StatementTree
changing first kinds =
    if bytes_eq first (codes "load") then load kinds
    else (if bytes_eq first (codes "name") then bind kinds
    else (if bytes_eq first (codes "unname") then unname kinds
    else (if bytes_eq first (codes "update") then update kinds else asking first kinds)))

unfoldable pub statement : Parse StatementTree
statement kinds = and_then (word kinds) changing
