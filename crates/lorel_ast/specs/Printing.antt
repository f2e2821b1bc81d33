-- The canonical tokens of a tree, with those that follow: what `print_statement` writes.
use Rattle.std.specs.Prelude.{ℕ, Bool, true, false, List, [], ◌∷◌, codes, Option, Some, None, All}
use Rattle.lorel_trees.specs.Types.{Oid, Plain, Wild, Kind}
use Rattle.lore_base.specs.Names.{is_identifier}
use Rattle.lore_base.specs.Paths as p
use Rattle.lorel_tokens.specs.declared.token_types.Kind.TheVariants as k
use Rattle.lorel_tokens.specs.declared.token_types.Sign.TheVariants as s
use Rattle.lorel_lex.specs.Writing.{IsUtf8Token}
use Rattle.lorel_trees.specs.declared.dump_trees.DumpTree.{DumpTree}
use Rattle.lorel_ast.specs.declared.print_conditions.Standing.{Standing}
use Rattle.lorel_ast.specs.declared.print_conditions.Standing.TheVariants.{Alone, InOr, Inside}
use Rattle.lorel_trees.specs.Trees as t
use Rattle.lorel_trees.specs.Repetitions.{spell_each}
use Rattle.lorel_trees.specs.Literals.{spell_value, spell_mark}
use Rattle.lorel_trees.specs.Conditions.{spell_op}
use Rattle.lorel_trees.specs.Statements.{spell_mode, spell_oid, spell_dump_objects, switch_text}

-- an identifier where the label has that form, and quoted where it hasn't
abbrev pub label_token : Bool → List ℕ → Kind
label_token true text = k.Word text
label_token false text = k.Quoted text

abbrev pub print_label : List ℕ → List Kind → List Kind
print_label text rest = label_token (is_identifier text) text ∷ rest

abbrev pub print_labels : List (List ℕ) → List Kind → List Kind
print_labels labels rest = spell_each (k.Symbol s.Dot) print_label labels rest

abbrev mutual
  pub print_part : p.PathTree → List Kind → List Kind
  print_part (p.step (Plain text)) rest = k.Symbol s.Dot ∷ print_label text rest
  print_part (p.step (Wild text)) rest = k.Symbol s.Dot ∷ k.Wild text ∷ rest
  print_part p.any rest = k.Symbol s.Dot ∷ k.Symbol s.Hash ∷ rest
  print_part (p.seq parts) rest = print_parts parts rest
  print_part (p.alt parts) rest = k.Symbol s.LeftParen ∷ print_alt parts (k.Symbol s.RightParen ∷ rest)
  print_part (p.opt part) rest = print_part part (k.Symbol s.Question ∷ rest)
  print_part (p.star part) rest = print_part part (k.Symbol s.Star ∷ rest)
  print_part (p.plus part) rest = print_part part (k.Symbol s.Plus ∷ rest)

  -- one after another
  pub print_parts : p.PathTrees → List Kind → List Kind
  print_parts p.none rest = rest
  print_parts (p.more first others) rest = print_part first (print_parts others rest)

  -- with bars between them
  pub print_alt : p.PathTrees → List Kind → List Kind
  print_alt p.none rest = rest
  print_alt (p.more first others) rest = print_part first (print_bars others rest)

  pub print_bars : p.PathTrees → List Kind → List Kind
  print_bars p.none rest = rest
  print_bars (p.more first others) rest = k.Symbol s.Bar ∷ print_part first (print_bars others rest)

abbrev pub print_steps : List p.PathTree → List Kind → List Kind
print_steps parts rest = print_parts (p.trees_of parts) rest

abbrev pub print_rooted : t.RootedTree → List Kind → List Kind
print_rooted path rest = k.Word path.start ∷ print_steps path.parts rest

abbrev mutual
  pub print_literal : t.LiteralTree → List Kind → List Kind
  print_literal (t.local number) rest = k.Local number ∷ rest
  print_literal (t.atom local value) rest = spell_mark local (spell_value value rest)
  print_literal (t.node local members) rest =
      spell_mark local (k.Symbol s.LeftBrace ∷ print_members members (k.Symbol s.RightBrace ∷ rest))

  pub print_members : t.MemberTrees → List Kind → List Kind
  print_members t.none rest = rest
  print_members (t.more label literal others) rest =
      print_label label (print_literal literal (print_more_members others rest))

  pub print_more_members : t.MemberTrees → List Kind → List Kind
  print_more_members t.none rest = rest
  print_more_members (t.more label literal others) rest =
      k.Symbol s.Comma ∷ print_label label (print_literal literal (print_more_members others rest))

abbrev pub print_operand : t.OperandTree → List Kind → List Kind
print_operand (t.constant value) rest = spell_value value rest
print_operand (t.at path) rest = print_rooted path rest

-- parentheses stand round every `or` that is a member of an `or` or `and`, round every `and` that is a member
-- of an `and`, and round every `or` or `and` that is the body of a `not` or quantifier, and nowhere else
abbrev mutual
  pub print_cond : t.CondTree → Standing → List Kind → List Kind
  print_cond (t.or members) Alone rest = print_joined members (codes "or") InOr rest
  print_cond (t.or members) InOr rest =
      k.Symbol s.LeftParen ∷ print_joined members (codes "or") InOr (k.Symbol s.RightParen ∷ rest)
  print_cond (t.or members) Inside rest =
      k.Symbol s.LeftParen ∷ print_joined members (codes "or") InOr (k.Symbol s.RightParen ∷ rest)
  print_cond (t.and members) Alone rest = print_joined members (codes "and") Inside rest
  print_cond (t.and members) InOr rest = print_joined members (codes "and") Inside rest
  print_cond (t.and members) Inside rest =
      k.Symbol s.LeftParen ∷ print_joined members (codes "and") Inside (k.Symbol s.RightParen ∷ rest)
  print_cond (t.not body) place rest = k.Word (codes "not") ∷ print_cond body Inside rest
  print_cond (t.exists variable path body) place rest =
      k.Word (codes "exists") ∷ k.Word variable ∷ k.Word (codes "in")
      ∷ print_rooted path (k.Symbol s.Colon ∷ print_cond body Inside rest)
  print_cond (t.for_all variable path body) place rest =
      k.Word (codes "for") ∷ k.Word (codes "all") ∷ k.Word variable ∷ k.Word (codes "in")
      ∷ print_rooted path (k.Symbol s.Colon ∷ print_cond body Inside rest)
  print_cond (t.compare left op right) place rest =
      print_operand left (spell_op op (print_operand right rest))
  print_cond (t.same left right) place rest = print_rooted left (k.Symbol s.SameAs ∷ print_rooted right rest)

  -- the members with this word between them
  pub print_joined : t.CondTrees → (join : List ℕ) → Standing → List Kind → List Kind
  print_joined t.no_cond join place rest = rest
  print_joined (t.cond first others) join place rest =
      print_cond first place (print_more_conds others join place rest)

  pub print_more_conds : t.CondTrees → (join : List ℕ) → Standing → List Kind → List Kind
  print_more_conds t.no_cond join place rest = rest
  print_more_conds (t.cond first others) join place rest =
      k.Word join ∷ print_cond first place (print_more_conds others join place rest)

-- a path variable stands behind a path with an object variable alone
abbrev pub print_variables : Option (List ℕ) → Option (List ℕ) → List Kind → List Kind
print_variables None None rest = rest
print_variables None (Some variable) rest = k.Word variable ∷ rest
print_variables (Some word) None rest = k.Symbol s.At ∷ k.Word word ∷ rest
print_variables (Some word) (Some variable) rest = k.Symbol s.At ∷ k.Word word ∷ k.Word variable ∷ rest

abbrev pub print_range : t.FromTree → List Kind → List Kind
print_range item rest = print_rooted item.path (print_variables item.word item.variable rest)

abbrev pub print_more_ranges : List t.FromTree → List Kind → List Kind
print_more_ranges ranges rest = spell_each (k.Symbol s.Comma) print_range ranges rest

abbrev pub print_from : List t.FromTree → List Kind → List Kind
print_from [] rest = rest
print_from (first ∷ others) rest = k.Word (codes "from") ∷ print_range first (print_more_ranges others rest)

abbrev pub print_where : Option t.CondTree → List Kind → List Kind
print_where None rest = rest
print_where (Some cond) rest = k.Word (codes "where") ∷ print_cond cond Alone rest

abbrev pub print_tail : t.TailTree → List Kind → List Kind
print_tail tail rest = print_from tail.ranges (print_where tail.cond rest)

abbrev pub print_item : t.ItemTree → List Kind → List Kind
print_item (t.object path) rest = print_rooted path rest
print_item (t.path_of variable) rest =
    k.PathOf ∷ k.Symbol s.LeftParen ∷ k.Word variable ∷ k.Symbol s.RightParen ∷ rest

abbrev pub print_more_items : List t.ItemTree → List Kind → List Kind
print_more_items items rest = spell_each (k.Symbol s.Comma) print_item items rest

abbrev pub print_items : List t.ItemTree → List Kind → List Kind
print_items [] rest = rest
print_items (first ∷ others) rest = print_item first (print_more_items others rest)

abbrev pub print_select : t.SelectTree → List Kind → List Kind
print_select query rest = k.Word (codes "select") ∷ print_items query.items (print_tail query.tail rest)

abbrev pub print_dump_labels : List (List ℕ) → List Kind → List Kind
print_dump_labels labels rest = spell_each (k.Word (codes "label")) print_label labels rest

abbrev pub print_dump_name : List ℕ × Oid → List Kind → List Kind
print_dump_name entry rest = k.Word entry.0 ∷ spell_oid entry.1 rest

abbrev pub print_dump_names : List (List ℕ × Oid) → List Kind → List Kind
print_dump_names names rest = spell_each (k.Word (codes "name")) print_dump_name names rest

abbrev pub print_dump_edge : Oid × List ℕ × Oid → List Kind → List Kind
print_dump_edge entry rest = spell_oid entry.0 (print_label entry.1 (spell_oid entry.2 rest))

abbrev pub print_dump_edges : List (Oid × List ℕ × Oid) → List Kind → List Kind
print_dump_edges edges rest = spell_each (k.Word (codes "edge")) print_dump_edge edges rest

abbrev pub print_dump : DumpTree → List Kind → List Kind
print_dump text rest =
    k.Word (codes "oem") ∷ k.Number text.version ∷ k.Word (codes "next") ∷ k.Number text.next
    ∷ k.Word (codes "nodes") ∷ k.Number text.nodes ∷ k.Word (codes "plan") ∷ spell_mode text.mode
    (print_dump_labels text.labels (print_dump_names text.names (spell_dump_objects text.objects
    (print_dump_edges text.edges (k.Word (codes "end") ∷ rest)))))

abbrev pub print_statement : t.StatementTree → List Kind → List Kind
print_statement (t.load name literal) rest =
    k.Word (codes "load") ∷ k.Word name ∷ k.Symbol s.Assign ∷ print_literal literal rest
print_statement (t.bind name path) rest =
    k.Word (codes "name") ∷ k.Word name ∷ k.Symbol s.Assign ∷ print_rooted path rest
print_statement (t.unname name) rest = k.Word (codes "unname") ∷ k.Word name ∷ rest
print_statement (t.assign target value tail) rest =
    k.Word (codes "update")
    ∷ print_rooted target (k.Symbol s.Assign ∷ spell_value value (print_tail tail rest))
print_statement (t.add_new target label literal tail) rest =
    k.Word (codes "update") ∷ print_rooted target (k.Symbol s.Dot ∷ print_label label (k.Symbol s.PlusAssign
    ∷ print_literal literal (print_tail tail rest)))
print_statement (t.add_link target label right tail) rest =
    k.Word (codes "update") ∷ print_rooted target (k.Symbol s.Dot ∷ print_label label (k.Symbol s.PlusAssign
    ∷ print_rooted right (print_tail tail rest)))
print_statement (t.remove target label right tail) rest =
    k.Word (codes "update") ∷ print_rooted target (k.Symbol s.Dot ∷ print_label label (k.Symbol s.MinusAssign
    ∷ print_rooted right (print_tail tail rest)))
print_statement (t.select query) rest = print_select query rest
print_statement (t.explain query) rest = k.Word (codes "explain") ∷ print_select query rest
print_statement t.guide rest = k.Word (codes "guide") ∷ rest
print_statement (t.browse start labels) rest =
    k.Word (codes "browse") ∷ k.Word start ∷ print_labels labels rest
print_statement (t.sample start labels count) rest =
    k.Word (codes "sample") ∷ k.Word start ∷ print_labels labels (k.Number count ∷ rest)
print_statement (t.set_nodes nodes) rest =
    k.Word (codes "set") ∷ k.Word (codes "nodes") ∷ k.Number nodes ∷ rest
print_statement (t.set_plan mode) rest = k.Word (codes "set") ∷ k.Word (codes "plan") ∷ spell_mode mode rest
print_statement t.dump rest = k.Word (codes "dump") ∷ rest
print_statement (t.restore text) rest = k.Word (codes "restore") ∷ print_dump text rest
print_statement (t.generate seed count) rest =
    k.Word (codes "generate") ∷ k.Number seed ∷ k.Number count ∷ rest
print_statement (t.history on) rest = k.Word (codes "history") ∷ k.Word (switch_text on) ∷ rest
print_statement (t.select_at moment query) rest =
    k.Word (codes "at") ∷ k.Number moment ∷ print_select query rest
print_statement (t.changes first last) rest =
    k.Word (codes "changes") ∷ k.Number first ∷ k.Number last ∷ rest
print_statement t.blocks rest = k.Word (codes "blocks") ∷ rest
print_statement (t.blocks_of query) rest = k.Word (codes "blocks") ∷ print_select query rest
print_statement (t.watch name query) rest =
    k.Word (codes "watch") ∷ k.Word name ∷ k.Symbol s.Assign ∷ print_select query rest
print_statement (t.unwatch name) rest = k.Word (codes "unwatch") ∷ k.Word name ∷ rest
print_statement (t.show name) rest = k.Word (codes "show") ∷ k.Word name ∷ rest

-- the texts of a statement are UTF-8
abbrev pub HasUtf8Texts : t.StatementTree → Type 0
HasUtf8Texts statement = All IsUtf8Token (print_statement statement [])
