-- What a function that writes tokens promises.
use Rattle.std.specs.Prelude.{◌≡◌, ℕ, List, ◌∷◌, ◌++◌, codes}
use Rattle.lorel_trees.specs.Types.{Kind, Sign}
use Rattle.lorel_tokens.specs.declared.token_types.Kind.TheVariants as k
use Rattle.lorel_tokens.specs.declared.token_types.Sign.TheVariants as s
use Rattle.lorel_lex.specs.Writing.{spaced}
use Rattle.lorel_trees.specs.Trees.{RootedTree}
use Rattle.lorel_trees.specs.declared.dump_trees.DumpTree.{DumpTree}
use Rattle.lorel_trees.specs.Statements.{spell_dump_objects}
use Rattle.lorel_ast.specs.Printing.{print_label, print_labels, print_rooted, print_dump_labels}
use Rattle.lorel_ast.specs.Printing.{print_dump_names, print_dump_edges}

-- it put these tokens behind what was written: whatever tokens follow
abbrev pub Puts : (List Kind → List Kind) → List ℕ → List ℕ → Type 0
Puts print old new = (rest : List Kind) → old ++ spaced (print rest) ≡ new ++ spaced rest

-- `update path.label` and the sign behind it
abbrev pub print_target : RootedTree → List ℕ → Sign → List Kind → List Kind
print_target target label sign rest =
    k.Word (codes "update") ∷ print_rooted target (k.Symbol s.Dot ∷ print_label label (k.Symbol sign ∷ rest))

-- `name in path :`
abbrev pub print_quantified : List ℕ → RootedTree → List Kind → List Kind
print_quantified variable path rest = k.Word variable ∷ k.Word (codes "in")
    ∷ print_rooted path (k.Symbol s.Colon ∷ rest)

-- a command and a label path
abbrev pub print_label_path : (command start : List ℕ) → List (List ℕ) → List Kind → List Kind
print_label_path command start labels rest = k.Word command ∷ k.Word start ∷ print_labels labels rest

-- the parts of a dump text: its numbers, its graph and what stands from its labels on
abbrev pub print_limits : DumpTree → List Kind → List Kind
print_limits text rest = k.Word (codes "next") ∷ k.Number text.next ∷ k.Word (codes "nodes")
    ∷ k.Number text.nodes ∷ rest

abbrev pub print_numbers : DumpTree → List Kind → List Kind
print_numbers text rest = k.Word (codes "oem") ∷ k.Number text.version ∷ print_limits text rest

abbrev pub print_graph : DumpTree → List Kind → List Kind
print_graph text rest = spell_dump_objects text.objects (print_dump_edges text.edges (k.Word (codes "end")
    ∷ rest))

abbrev pub print_lists : DumpTree → List Kind → List Kind
print_lists text rest = print_dump_labels text.labels (print_dump_names text.names (print_graph text rest))
