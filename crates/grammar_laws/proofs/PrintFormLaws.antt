-- The canonical tokens of a statement whose texts and numbers keep their forms have their form.
use Rattle.std.proofs.Common.{◌≡◌, ℕ, ◌≤◌, Bool, true, false, List, [], ◌∷◌, codes, length, Option, Some, None, All, refl, lit≤}
use Rattle.std.proofs.lemmas.List.Elements.{All-head, All-tail}
use Rattle.lore_base.specs.Names.{is_identifier, IsIdentifier, IsLabel, IsName}
use Rattle.lore_base.specs.Databases.{IsSized}
use Rattle.lore_base.proofs.WordLaws.{identifier_tested}
use Rattle.lore_base.specs.Paths as p
use Rattle.lorel_trees.specs.Types.{Kind, Oid, Value, Whole, Chars, Flag, Complex, Plain, Wild, Op, Eq, Ne, Lt, Le, Gt, Ge, Like, Mode, Auto, Top, Bottom, Guided, WORD_BYTES}
use Rattle.lorel_tokens.specs.declared.token_types.Kind.TheVariants as k
use Rattle.lorel_tokens.specs.declared.token_types.Sign.TheVariants as s
use Rattle.lorel_tokens.specs.Forms.{HasForm}
use Rattle.lorel_trees.specs.declared.dump_trees.DumpTree.{DumpTree}
use Rattle.lorel_trees.specs.Trees as t
use Rattle.lorel_trees.specs.Repetitions.{spell_each}
use Rattle.lorel_trees.specs.Literals.{spell_value, spell_mark}
use Rattle.lorel_trees.specs.Conditions.{spell_op}
use Rattle.lorel_trees.specs.Statements.{spell_mode, spell_dump_object}
use Rattle.lorel_trees.specs.Formed.{IsFormedPath, AreFormedPaths, IsFormedRooted, IsFormedMark, IsFormedLiteral, AreFormedMembers, IsFormedOperand, IsFormedCond, AreFormedConds, IsFormedVariable, IsFormedFrom, IsFormedItem, IsFormedWhere, IsFormedTail, IsFormedSelect, IsFormedName, IsFormedObject, IsFormedEdge, IsFormedDump, IsFormedStatement}
use Rattle.lorel_ast.specs.declared.print_conditions.Standing.{Standing}
use Rattle.lorel_ast.specs.declared.print_conditions.Standing.TheVariants.{Alone, InOr, Inside}
use Rattle.lorel_ast.specs.Printing.{label_token, print_label, print_part, print_parts, print_alt, print_bars, print_rooted, print_literal, print_members, print_more_members, print_operand, print_cond, print_joined, print_more_conds, print_variables, print_range, print_from, print_where, print_tail, print_item, print_items, print_select, print_dump_name, print_dump_edge, print_dump, print_statement}
use Rattle.lorel_trees.proofs.FormLaws.{Formed, are_formed}

-- words and labels
keyword : (text : List ℕ) → is_identifier text ≡ true → length text ≤ WORD_BYTES → HasForm (k.Word text)
keyword text is short = ((identifier_tested text).1 is, short)

label_by : (is : Bool) (text : List ℕ) → (is ≡ true → IsIdentifier text) → IsLabel text → HasForm (label_token is text)
label_by true text identifier sized = (identifier refl, sized.1)
label_by false text identifier sized = sized

label_printed : (text : List ℕ) (rest : List Kind) → IsLabel text → Formed rest → Formed (print_label text rest)
label_printed text rest sized formed = (label_by (is_identifier text) text (λ is. (identifier_tested text).1 is) sized, formed)

name_printed : (text : List ℕ) → IsName text → HasForm (k.Word text)
name_printed text named = (named.identifier, named.sized)

each_printed : {T : Type 0} (kind : Kind) (print : T → List Kind → List Kind) (Is : T → Type 0) → HasForm kind
    → ((one : T) (rest : List Kind) → Is one → Formed rest → Formed (print one rest))
    → (all : List T) (rest : List Kind) → All Is all → Formed rest → Formed (spell_each kind print all rest)
each_printed kind print Is form one_printed [] rest are formed = formed
each_printed kind print Is form one_printed (first ∷ others) rest are formed =
    (form, one_printed first _ (All-head Is first others are) (each_printed kind print Is form one_printed others rest (All-tail Is first others are) formed))

-- paths
mutual
  part_printed : (tree : p.PathTree) (rest : List Kind) → IsFormedPath tree → Formed rest → Formed (print_part tree rest)
  part_printed (p.step (Plain text)) rest is formed = (tt, label_printed text rest is formed)
  part_printed (p.step (Wild text)) rest is formed = (tt, (is, formed))
  part_printed p.any rest is formed = (tt, (tt, formed))
  part_printed (p.seq parts) rest is formed = parts_printed parts rest is formed
  part_printed (p.alt parts) rest is formed = (tt, alt_printed parts (k.Symbol s.RightParen ∷ rest) is (tt, formed))
  part_printed (p.opt part) rest is formed = part_printed part (k.Symbol s.Question ∷ rest) is (tt, formed)
  part_printed (p.star part) rest is formed = part_printed part (k.Symbol s.Star ∷ rest) is (tt, formed)
  part_printed (p.plus part) rest is formed = part_printed part (k.Symbol s.Plus ∷ rest) is (tt, formed)

  parts_printed : (trees : p.PathTrees) (rest : List Kind) → AreFormedPaths trees → Formed rest → Formed (print_parts trees rest)
  parts_printed p.none rest are formed = formed
  parts_printed (p.more first others) rest (is, are) formed = part_printed first (print_parts others rest) is (parts_printed others rest are formed)

  alt_printed : (trees : p.PathTrees) (rest : List Kind) → AreFormedPaths trees → Formed rest → Formed (print_alt trees rest)
  alt_printed p.none rest are formed = formed
  alt_printed (p.more first others) rest (is, are) formed = part_printed first (print_bars others rest) is (bars_printed others rest are formed)

  bars_printed : (trees : p.PathTrees) (rest : List Kind) → AreFormedPaths trees → Formed rest → Formed (print_bars trees rest)
  bars_printed p.none rest are formed = formed
  bars_printed (p.more first others) rest (is, are) formed = (tt, part_printed first (print_bars others rest) is (bars_printed others rest are formed))

rooted_printed : (path : t.RootedTree) (rest : List Kind) → IsFormedRooted path → Formed rest → Formed (print_rooted path rest)
rooted_printed path rest is formed = (name_printed path.start is.start, parts_printed (p.trees_of path.parts) rest (are_formed path.parts is.parts) formed)

-- literals
value_printed : (value : Value) (rest : List Kind) → IsSized value → Formed rest → Formed (spell_value value rest)
value_printed (Whole number) rest is formed = (is, formed)
value_printed (Chars text) rest is formed = (is, formed)
value_printed (Flag true) rest is formed = (keyword (codes "true") refl (lit≤ tt), formed)
value_printed (Flag false) rest is formed = (keyword (codes "false") refl (lit≤ tt), formed)
value_printed Complex rest is formed = (tt, (tt, formed))

mark_printed : (mark : Option ℕ) (rest : List Kind) → IsFormedMark mark → Formed rest → Formed (spell_mark mark rest)
mark_printed None rest is formed = formed
mark_printed (Some id) rest is formed = (is, formed)

mutual
  literal_printed : (literal : t.LiteralTree) (rest : List Kind) → IsFormedLiteral literal → Formed rest → Formed (print_literal literal rest)
  literal_printed (t.local id) rest is formed = (is, formed)
  literal_printed (t.atom mark value) rest (is, sized) formed = mark_printed mark _ is (value_printed value rest sized formed)
  literal_printed (t.node mark members) rest (is, are) formed =
      mark_printed mark _ is (tt, members_printed members (k.Symbol s.RightBrace ∷ rest) are (tt, formed))

  members_printed : (members : t.MemberTrees) (rest : List Kind) → AreFormedMembers members → Formed rest → Formed (print_members members rest)
  members_printed t.none rest are formed = formed
  members_printed (t.more label literal others) rest (named, is, are) formed =
      label_printed label _ named (literal_printed literal _ is (more_members_printed others rest are formed))

  more_members_printed : (members : t.MemberTrees) (rest : List Kind) → AreFormedMembers members → Formed rest → Formed (print_more_members members rest)
  more_members_printed t.none rest are formed = formed
  more_members_printed (t.more label literal others) rest (named, is, are) formed =
      (tt, label_printed label _ named (literal_printed literal _ is (more_members_printed others rest are formed)))

-- conditions
op_printed : (op : Op) (rest : List Kind) → Formed rest → Formed (spell_op op rest)
op_printed Eq rest formed = (tt, formed)
op_printed Ne rest formed = (tt, formed)
op_printed Lt rest formed = (tt, formed)
op_printed Le rest formed = (tt, formed)
op_printed Gt rest formed = (tt, formed)
op_printed Ge rest formed = (tt, formed)
op_printed Like rest formed = (keyword (codes "like") refl (lit≤ tt), formed)

operand_printed : (side : t.OperandTree) (rest : List Kind) → IsFormedOperand side → Formed rest → Formed (print_operand side rest)
operand_printed (t.constant value) rest is formed = value_printed value rest is formed
operand_printed (t.at path) rest is formed = rooted_printed path rest is formed

or_form : HasForm (k.Word (codes "or"))
or_form = keyword (codes "or") refl (lit≤ tt)

and_form : HasForm (k.Word (codes "and"))
and_form = keyword (codes "and") refl (lit≤ tt)

in_form : HasForm (k.Word (codes "in"))
in_form = keyword (codes "in") refl (lit≤ tt)

mutual
  cond_printed : (cond : t.CondTree) (place : Standing) (rest : List Kind) → IsFormedCond cond → Formed rest → Formed (print_cond cond place rest)
  cond_printed (t.or members) Alone rest are formed = joined_printed members (codes "or") InOr rest or_form are formed
  cond_printed (t.or members) InOr rest are formed = (tt, joined_printed members (codes "or") InOr (k.Symbol s.RightParen ∷ rest) or_form are (tt, formed))
  cond_printed (t.or members) Inside rest are formed = (tt, joined_printed members (codes "or") InOr (k.Symbol s.RightParen ∷ rest) or_form are (tt, formed))
  cond_printed (t.and members) Alone rest are formed = joined_printed members (codes "and") Inside rest and_form are formed
  cond_printed (t.and members) InOr rest are formed = joined_printed members (codes "and") Inside rest and_form are formed
  cond_printed (t.and members) Inside rest are formed = (tt, joined_printed members (codes "and") Inside (k.Symbol s.RightParen ∷ rest) and_form are (tt, formed))
  cond_printed (t.not body) place rest is formed = (keyword (codes "not") refl (lit≤ tt), cond_printed body Inside rest is formed)
  cond_printed (t.exists variable path body) place rest (named, on, is) formed =
      (keyword (codes "exists") refl (lit≤ tt), (name_printed variable named, (in_form, rooted_printed path _ on (tt, cond_printed body Inside rest is formed))))
  cond_printed (t.for_all variable path body) place rest (named, on, is) formed =
      (keyword (codes "for") refl (lit≤ tt), (keyword (codes "all") refl (lit≤ tt), (name_printed variable named, (in_form, rooted_printed path _ on (tt, cond_printed body Inside rest is formed)))))
  cond_printed (t.compare left op right) place rest (is, also) formed = operand_printed left _ is (op_printed op _ (operand_printed right rest also formed))
  cond_printed (t.same left right) place rest (is, also) formed = rooted_printed left _ is (tt, rooted_printed right rest also formed)

  joined_printed : (members : t.CondTrees) (join : List ℕ) (place : Standing) (rest : List Kind) → HasForm (k.Word join) → AreFormedConds members → Formed rest
      → Formed (print_joined members join place rest)
  joined_printed t.no_cond join place rest form are formed = formed
  joined_printed (t.cond first others) join place rest form (is, are) formed = cond_printed first place _ is (more_conds_printed others join place rest form are formed)

  more_conds_printed : (members : t.CondTrees) (join : List ℕ) (place : Standing) (rest : List Kind) → HasForm (k.Word join) → AreFormedConds members → Formed rest
      → Formed (print_more_conds members join place rest)
  more_conds_printed t.no_cond join place rest form are formed = formed
  more_conds_printed (t.cond first others) join place rest form (is, are) formed = (form, cond_printed first place _ is (more_conds_printed others join place rest form are formed))

-- tails and selects
variables_printed : (word variable : Option (List ℕ)) (rest : List Kind) → IsFormedVariable word → IsFormedVariable variable → Formed rest
    → Formed (print_variables word variable rest)
variables_printed None None rest is also formed = formed
variables_printed None (Some variable) rest is also formed = (name_printed variable also, formed)
variables_printed (Some word) None rest is also formed = (tt, (name_printed word is, formed))
variables_printed (Some word) (Some variable) rest is also formed = (tt, (name_printed word is, (name_printed variable also, formed)))

range_printed : (item : t.FromTree) (rest : List Kind) → IsFormedFrom item → Formed rest → Formed (print_range item rest)
range_printed item rest is formed = rooted_printed item.path _ is.path (variables_printed item.word item.variable rest is.word is.variable formed)

from_printed : (ranges : List t.FromTree) (rest : List Kind) → All IsFormedFrom ranges → Formed rest → Formed (print_from ranges rest)
from_printed [] rest are formed = formed
from_printed (first ∷ others) rest are formed = (
  keyword (codes "from") refl (lit≤ tt),
  range_printed first _ (All-head IsFormedFrom first others are)
      (each_printed (k.Symbol s.Comma) print_range IsFormedFrom tt range_printed others rest (All-tail IsFormedFrom first others are) formed),
)

where_printed : (cond : Option t.CondTree) (rest : List Kind) → IsFormedWhere cond → Formed rest → Formed (print_where cond rest)
where_printed None rest is formed = formed
where_printed (Some cond) rest is formed = (keyword (codes "where") refl (lit≤ tt), cond_printed cond Alone rest is formed)

tail_printed : (tail : t.TailTree) (rest : List Kind) → IsFormedTail tail → Formed rest → Formed (print_tail tail rest)
tail_printed tail rest is formed = from_printed tail.ranges _ is.ranges (where_printed tail.cond rest is.cond formed)

item_printed : (item : t.ItemTree) (rest : List Kind) → IsFormedItem item → Formed rest → Formed (print_item item rest)
item_printed (t.object path) rest is formed = rooted_printed path rest is formed
item_printed (t.path_of variable) rest is formed = (tt, (tt, (name_printed variable is, (tt, formed))))

items_printed : (items : List t.ItemTree) (rest : List Kind) → All IsFormedItem items → Formed rest → Formed (print_items items rest)
items_printed [] rest are formed = formed
items_printed (first ∷ others) rest are formed = item_printed first _ (All-head IsFormedItem first others are)
    (each_printed (k.Symbol s.Comma) print_item IsFormedItem tt item_printed others rest (All-tail IsFormedItem first others are) formed)

select_printed : (query : t.SelectTree) (rest : List Kind) → IsFormedSelect query → Formed rest → Formed (print_select query rest)
select_printed query rest is formed = (keyword (codes "select") refl (lit≤ tt), items_printed query.items _ is.items (tail_printed query.tail rest is.tail formed))

-- dump texts
mode_printed : (mode : Mode) (rest : List Kind) → Formed rest → Formed (spell_mode mode rest)
mode_printed Auto rest formed = (keyword (codes "auto") refl (lit≤ tt), formed)
mode_printed Top rest formed = (keyword (codes "top") refl (lit≤ tt), formed)
mode_printed Bottom rest formed = (keyword (codes "bottom") refl (lit≤ tt), formed)
mode_printed Guided rest formed = (keyword (codes "guide") refl (lit≤ tt), formed)

dump_name_printed : (entry : List ℕ × Oid) (rest : List Kind) → IsFormedName entry → Formed rest → Formed (print_dump_name entry rest)
dump_name_printed entry rest (named, fits) formed = (name_printed entry.0 named, (fits, formed))

dump_object_printed : (entry : Oid × Value) (rest : List Kind) → IsFormedObject entry → Formed rest → Formed (spell_dump_object entry rest)
dump_object_printed entry rest (fits, sized) formed = (fits, value_printed entry.1 rest sized formed)

dump_edge_printed : (entry : Oid × List ℕ × Oid) (rest : List Kind) → IsFormedEdge entry → Formed rest → Formed (print_dump_edge entry rest)
dump_edge_printed entry rest (fits, named, also) formed = (fits, label_printed entry.1 (k.Local entry.2.0 ∷ rest) named (also, formed))

dump_printed : (text : DumpTree) (rest : List Kind) → IsFormedDump text → Formed rest → Formed (print_dump text rest)
dump_printed text rest is formed =
    let edges = each_printed (k.Word (codes "edge")) print_dump_edge IsFormedEdge (keyword (codes "edge") refl (lit≤ tt)) dump_edge_printed text.edges
    (k.Word (codes "end") ∷ rest) is.edges (keyword (codes "end") refl (lit≤ tt), formed) in
    let objects = each_printed (k.Word (codes "object")) spell_dump_object IsFormedObject (keyword (codes "object") refl (lit≤ tt)) dump_object_printed text.objects _ is.objects edges in
    let names = each_printed (k.Word (codes "name")) print_dump_name IsFormedName (keyword (codes "name") refl (lit≤ tt)) dump_name_printed text.names _ is.names objects in
    let labels = each_printed (k.Word (codes "label")) print_label IsLabel (keyword (codes "label") refl (lit≤ tt)) label_printed text.labels _ is.labels names in
    (keyword (codes "oem") refl (lit≤ tt), (is.version, (keyword (codes "next") refl (lit≤ tt), (is.next, (keyword (codes "nodes") refl (lit≤ tt), (is.nodes, (keyword (codes "plan") refl (lit≤ tt), mode_printed text.mode _ labels)))))))

-- statements
dots_printed : (labels : List (List ℕ)) (rest : List Kind) → All IsLabel labels → Formed rest → Formed (spell_each (k.Symbol s.Dot) print_label labels rest)
dots_printed labels rest are formed = each_printed (k.Symbol s.Dot) print_label IsLabel tt label_printed labels rest are formed

update_form : HasForm (k.Word (codes "update"))
update_form = keyword (codes "update") refl (lit≤ tt)

pub statement_printed : (statement : t.StatementTree) → IsFormedStatement statement → Formed (print_statement statement [])
statement_printed (t.load name literal) (named, is) = (keyword (codes "load") refl (lit≤ tt), (name_printed name named, (tt, literal_printed literal [] is tt)))
statement_printed (t.bind name path) (named, is) = (keyword (codes "name") refl (lit≤ tt), (name_printed name named, (tt, rooted_printed path [] is tt)))
statement_printed (t.unname name) named = (keyword (codes "unname") refl (lit≤ tt), (name_printed name named, tt))
statement_printed (t.assign target value tail) (on, sized, is) =
    let valued = value_printed value (print_tail tail []) sized (tail_printed tail [] is tt) in
    (update_form, rooted_printed target (k.Symbol s.Assign ∷ spell_value value (print_tail tail [])) on (tt, valued))
statement_printed (t.add_new target label literal tail) (on, named, held, is) =
    let behind = k.Symbol s.PlusAssign ∷ print_literal literal (print_tail tail []) in
    let added = literal_printed literal (print_tail tail []) held (tail_printed tail [] is tt) in
    let labelled = label_printed label behind named (tt, added) in
    (update_form, rooted_printed target (k.Symbol s.Dot ∷ print_label label behind) on (tt, labelled))
statement_printed (t.add_link target label right tail) (on, named, held, is) =
    let behind = k.Symbol s.PlusAssign ∷ print_rooted right (print_tail tail []) in
    let added = rooted_printed right (print_tail tail []) held (tail_printed tail [] is tt) in
    let labelled = label_printed label behind named (tt, added) in
    (update_form, rooted_printed target (k.Symbol s.Dot ∷ print_label label behind) on (tt, labelled))
statement_printed (t.remove target label right tail) (on, named, held, is) =
    let behind = k.Symbol s.MinusAssign ∷ print_rooted right (print_tail tail []) in
    let added = rooted_printed right (print_tail tail []) held (tail_printed tail [] is tt) in
    let labelled = label_printed label behind named (tt, added) in
    (update_form, rooted_printed target (k.Symbol s.Dot ∷ print_label label behind) on (tt, labelled))
statement_printed (t.select query) is = select_printed query [] is tt
statement_printed (t.explain query) is = (keyword (codes "explain") refl (lit≤ tt), select_printed query [] is tt)
statement_printed t.guide is = (keyword (codes "guide") refl (lit≤ tt), tt)
statement_printed (t.browse start labels) (named, are) = (keyword (codes "browse") refl (lit≤ tt), (name_printed start named, dots_printed labels [] are tt))
statement_printed (t.sample start labels count) (named, are, fits) =
    (keyword (codes "sample") refl (lit≤ tt), (name_printed start named, dots_printed labels (k.Number count ∷ []) are (fits, tt)))
statement_printed (t.set_nodes nodes) fits = (keyword (codes "set") refl (lit≤ tt), (keyword (codes "nodes") refl (lit≤ tt), (fits, tt)))
statement_printed (t.set_plan mode) is = (keyword (codes "set") refl (lit≤ tt), (keyword (codes "plan") refl (lit≤ tt), mode_printed mode [] tt))
statement_printed t.dump is = (keyword (codes "dump") refl (lit≤ tt), tt)
statement_printed (t.restore text) is = (keyword (codes "restore") refl (lit≤ tt), dump_printed text [] is tt)
statement_printed (t.generate seed count) (first, second) = (keyword (codes "generate") refl (lit≤ tt), (first, (second, tt)))
statement_printed (t.history true) is = (keyword (codes "history") refl (lit≤ tt), (keyword (codes "on") refl (lit≤ tt), tt))
statement_printed (t.history false) is = (keyword (codes "history") refl (lit≤ tt), (keyword (codes "off") refl (lit≤ tt), tt))
statement_printed (t.select_at moment query) (fits, is) = (keyword (codes "at") refl (lit≤ tt), (fits, select_printed query [] is tt))
statement_printed (t.changes from to) (first, second) = (keyword (codes "changes") refl (lit≤ tt), (first, (second, tt)))
statement_printed t.blocks is = (keyword (codes "blocks") refl (lit≤ tt), tt)
statement_printed (t.blocks_of query) is = (keyword (codes "blocks") refl (lit≤ tt), select_printed query [] is tt)
statement_printed (t.watch name query) (named, is, are) = (keyword (codes "watch") refl (lit≤ tt), (name_printed name named, (tt, select_printed query [] is tt)))
statement_printed (t.unwatch name) named = (keyword (codes "unwatch") refl (lit≤ tt), (name_printed name named, tt))
statement_printed (t.show name) named = (keyword (codes "show") refl (lit≤ tt), (name_printed name named, tt))
