-- The texts and numbers of what is sound keep their forms and limits: the tokens of a derivation have their form.
use Rattle.std.proofs.Common.{ℕ, ◌≤◌, List, [], ◌∷◌, map, length, codes, Option, Some, None, option_map, All, subst, arith}
use Rattle.lorel_trees.specs.Types.{Oid, Value, Whole, Chars, Flag, Complex, Op, Eq, Ne, Lt, Le, Gt, Ge, Like, Mode, Auto, Top, Bottom, Guided, Kind}
use Rattle.std.proofs.lemmas.List.Elements.{All-nil, All-cons, All-head, All-tail}
use Rattle.lore_base.specs.Names.{IsIdentifier, IsName, IsLabel}
use Rattle.lore_base.specs.Databases.{IsSized}
use Rattle.lore_base.specs.Paths as p
use Rattle.lorel_tokens.specs.declared.token_types.Kind.TheVariants as k
use Rattle.lorel_tokens.specs.declared.token_types.Sign.TheVariants as s
use Rattle.lorel_tokens.specs.Forms.{HasForm}
use Rattle.lorel_trees.specs.declared.dump_trees.DumpTree.{DumpTree}
use Rattle.lorel_trees.specs.Trees as t
use Rattle.lorel_trees.specs.Grammar as g
use Rattle.lorel_trees.specs.Repetitions.{spell_each}
use Rattle.lorel_trees.specs.Paths.{spell_name, text_of_name, spell_label, text_of_label, spell_alt, trees_alt, spell_choices, trees_choices, spell_seq, tree_seq, spell_parts, trees_parts, spell_part, tree_part, spell_base, tree_base, spell_path, tree_path}
use Rattle.lorel_trees.specs.Literals.{spell_value, spell_atom, value_of_atom, spell_mark, spell_literal, tree_literal, spell_members, trees_members, spell_more_members, trees_more_members}
use Rattle.lorel_trees.specs.Conditions.{spell_op, spell_operand, tree_operand, spell_cond, tree_cond, spell_more_conjs, trees_more_conjs, spell_conj, tree_conj, spell_more_unaries, trees_more_unaries, spell_unary, tree_unary, joined}
use Rattle.lorel_trees.specs.Selects.{spell_range, tree_range, spell_from, spell_where, spell_tail, tree_tail, spell_item, tree_item, spell_select, tree_select, select_of_paths, spell_paths}
use Rattle.lorel_trees.specs.Statements.{spell_mode, spell_dump_name, entry_of_name, spell_dump_object, spell_dump_edge, entry_of_edge, spell_dump_objects, spell_dump_text, tree_dump_text, spell_statement, tree_statement}
use Rattle.lorel_trees.proofs.PathItemLaws.{paths_items}
use Rattle.lorel_trees.specs.Sound.{IsSound, IsSoundLiteral, IsSoundDump}
use Rattle.lorel_trees.specs.Formed.{IsFormedPath, AreFormedPaths, IsFormedRooted, IsFormedMark, IsFormedLiteral, AreFormedMembers, IsFormedOperand, IsFormedCond, AreFormedConds, IsFormedFrom, IsFormedItem, IsFormedWhere, IsFormedTail, IsFormedSelect, IsFormedName, IsFormedObject, IsFormedEdge, IsFormedDump, IsFormedStatement}

-- the tokens of a list have their form
abbrev pub Formed : List Kind → Type 0
Formed [] = Unit {0}
Formed (kind ∷ kinds) = HasForm kind × Formed kinds

pub formed_from : (kinds : List Kind) → All HasForm kinds → Formed kinds
formed_from [] all = tt
formed_from (kind ∷ kinds) all = (All-head HasForm kind kinds all, formed_from kinds (All-tail HasForm kind kinds all))

pub formed_all : (kinds : List Kind) → Formed kinds → All HasForm kinds
formed_all [] formed = All-nil HasForm
formed_all (kind ∷ kinds) (form, formed) = All-cons HasForm kind kinds form (formed_all kinds formed)

-- names and labels
pub name_formed : (name : g.Name) (rest : List Kind) → Formed (spell_name name rest) → IsName (text_of_name name) × Formed rest
name_formed (g.free text unreserved) rest (form, behind) = (record { identifier = form.0; unreserved = unreserved; sized = form.1 }, behind)

identifier_some : (text : List ℕ) → IsIdentifier text → 1 ≤ length text
identifier_some [] is = absurd is
identifier_some (first ∷ others) is = omega arith

pub label_formed : (one : g.Label) (rest : List Kind) → Formed (spell_label one rest) → IsLabel (text_of_label one) × Formed rest
label_formed (g.word text) rest (form, behind) = ((identifier_some text form.0, form.1), behind)
label_formed (g.quoted text) rest (form, behind) = (form, behind)

each_formed : {D T : Type 0} (kind : Kind) (spell : D → List Kind → List Kind) (tree : D → T) (Is : T → Type 0)
    → ((one : D) (rest : List Kind) → Formed (spell one rest) → Is (tree one) × Formed rest)
    → (all : List D) (rest : List Kind) → Formed (spell_each kind spell all rest) → All Is (map tree all) × Formed rest
each_formed kind spell tree Is one_formed [] rest formed = (All-nil Is, formed)
each_formed kind spell tree Is one_formed (first ∷ others) rest (form, formed) =
    let (is, behind) = one_formed first (spell_each kind spell others rest) formed in
    let (are, end) = each_formed kind spell tree Is one_formed others rest behind in
    (All-cons Is (tree first) (map tree others) is are, end)

-- paths
pub are_formed : (trees : List p.PathTree) → All IsFormedPath trees → AreFormedPaths (p.trees_of trees)
are_formed [] all = tt
are_formed (first ∷ others) all = (All-head IsFormedPath first others all, are_formed others (All-tail IsFormedPath first others all))

mutual
  alt_formed : (inner : g.Alt) (rest : List Kind) → Formed (spell_alt inner rest) → AreFormedPaths (trees_alt inner) × Formed rest
  alt_formed (g.choice first others) rest formed =
      let (is, behind) = seq_formed first (spell_choices others rest) formed in
      let (are, end) = choices_formed others rest behind in
      ((is, are), end)

  choices_formed : (others : g.Choices) (rest : List Kind) → Formed (spell_choices others rest) → AreFormedPaths (trees_choices others) × Formed rest
  choices_formed g.no_choices rest formed = (tt, formed)
  choices_formed (g.bar first others) rest (form, formed) =
      let (is, behind) = seq_formed first (spell_choices others rest) formed in
      let (are, end) = choices_formed others rest behind in
      ((is, are), end)

  seq_formed : (one : g.Seq) (rest : List Kind) → Formed (spell_seq one rest) → IsFormedPath (tree_seq one) × Formed rest
  seq_formed (g.sequence first others) rest formed =
      let (is, behind) = part_formed first (spell_parts others rest) formed in
      let (are, end) = parts_formed others rest behind in
      ((is, are_formed (trees_parts others) are), end)

  parts_formed : (parts : g.Parts) (rest : List Kind) → Formed (spell_parts parts rest) → All IsFormedPath (trees_parts parts) × Formed rest
  parts_formed g.no_parts rest formed = (All-nil IsFormedPath, formed)
  parts_formed (g.part first others) rest formed =
      let (is, behind) = part_formed first (spell_parts others rest) formed in
      let (are, end) = parts_formed others rest behind in
      (All-cons IsFormedPath (tree_part first) (trees_parts others) is are, end)

  part_formed : (one : g.Part) (rest : List Kind) → Formed (spell_part one rest) → IsFormedPath (tree_part one) × Formed rest
  part_formed (g.once base) rest formed = base_formed base rest formed
  part_formed (g.question base) rest formed = let (is, behind) = base_formed base (k.Symbol s.Question ∷ rest) formed in (is, behind.1)
  part_formed (g.star base) rest formed = let (is, behind) = base_formed base (k.Symbol s.Star ∷ rest) formed in (is, behind.1)
  part_formed (g.plus base) rest formed = let (is, behind) = base_formed base (k.Symbol s.Plus ∷ rest) formed in (is, behind.1)

  base_formed : (base : g.Base) (rest : List Kind) → Formed (spell_base base rest) → IsFormedPath (tree_base base) × Formed rest
  base_formed (g.label one) rest (dot, formed) = label_formed one rest formed
  base_formed (g.pattern text) rest (dot, (form, formed)) = (form, formed)
  base_formed g.hash rest (dot, (hash, formed)) = (tt, formed)
  base_formed (g.group inner) rest (paren, formed) = let (is, behind) = alt_formed inner (k.Symbol s.RightParen ∷ rest) formed in (is, behind.1)

pub path_formed : (path : g.Path) (rest : List Kind) → Formed (spell_path path rest) → IsFormedRooted (tree_path path) × Formed rest
path_formed (g.rooted name parts) rest formed =
    let (start, behind) = name_formed name (spell_parts parts rest) formed in
    let (are, end) = parts_formed parts rest behind in
    (record { start = start; parts = are }, end)

-- literals
value_formed : (value : Value) (rest : List Kind) → Formed (spell_value value rest) → IsSized value × Formed rest
value_formed (Whole number) rest (form, formed) = (form, formed)
value_formed (Chars text) rest (form, formed) = (form, formed)
value_formed (Flag holds) rest (form, formed) = (tt, formed)
value_formed Complex rest (left, (right, formed)) = (tt, formed)

atom_formed : (value : g.Atom) (rest : List Kind) → Formed (spell_atom value rest) → IsSized (value_of_atom value) × Formed rest
atom_formed (g.number value) rest (form, formed) = (form, formed)
atom_formed (g.chars text) rest (form, formed) = (form, formed)
atom_formed (g.flag holds) rest (form, formed) = (tt, formed)

mark_formed : (mark : Option ℕ) (rest : List Kind) → Formed (spell_mark mark rest) → IsFormedMark mark × Formed rest
mark_formed None rest formed = (tt, formed)
mark_formed (Some id) rest (form, formed) = (form, formed)

mutual
  literal_formed : (literal : g.Literal) (rest : List Kind) → Formed (spell_literal literal rest) → IsFormedLiteral (tree_literal literal) × Formed rest
  literal_formed (g.local id) rest (form, formed) = (form, formed)
  literal_formed (g.atom mark value) rest formed =
      let (is, behind) = mark_formed mark (spell_atom value rest) formed in
      let (sized, end) = atom_formed value rest behind in
      ((is, sized), end)
  literal_formed (g.braces mark inner) rest formed =
      let (is, behind) = mark_formed mark (k.Symbol s.LeftBrace ∷ spell_members inner (k.Symbol s.RightBrace ∷ rest)) formed in
      let (are, end) = members_formed inner (k.Symbol s.RightBrace ∷ rest) behind.1 in
      ((is, are), end.1)

  members_formed : (inner : g.Members) (rest : List Kind) → Formed (spell_members inner rest) → AreFormedMembers (trees_members inner) × Formed rest
  members_formed g.no_members rest formed = (tt, formed)
  members_formed (g.members (g.member label literal) others) rest formed =
      let (named, held) = label_formed label (spell_literal literal (spell_more_members others rest)) formed in
      let (is, behind) = literal_formed literal (spell_more_members others rest) held in
      let (are, end) = more_members_formed others rest behind in
      ((named, is, are), end)

  more_members_formed : (others : g.MoreMembers) (rest : List Kind) → Formed (spell_more_members others rest) → AreFormedMembers (trees_more_members others) × Formed rest
  more_members_formed g.no_more rest formed = (tt, formed)
  more_members_formed (g.comma (g.member label literal) others) rest (comma, formed) =
      let (named, held) = label_formed label (spell_literal literal (spell_more_members others rest)) formed in
      let (is, behind) = literal_formed literal (spell_more_members others rest) held in
      let (are, end) = more_members_formed others rest behind in
      ((named, is, are), end)

-- conditions
op_formed : (op : Op) (rest : List Kind) → Formed (spell_op op rest) → Formed rest
op_formed Eq rest (form, formed) = formed
op_formed Ne rest (form, formed) = formed
op_formed Lt rest (form, formed) = formed
op_formed Le rest (form, formed) = formed
op_formed Gt rest (form, formed) = formed
op_formed Ge rest (form, formed) = formed
op_formed Like rest (form, formed) = formed

operand_formed : (side : g.Operand) (rest : List Kind) → Formed (spell_operand side rest) → IsFormedOperand (tree_operand side) × Formed rest
operand_formed (g.constant value) rest formed = atom_formed value rest formed
operand_formed (g.reached path) rest formed = path_formed path rest formed

or_formed : (first : t.CondTree) (others : t.CondTrees) → IsFormedCond first → AreFormedConds others → IsFormedCond (joined t.or first others)
or_formed first t.no_cond is are = is
or_formed first (t.cond second others) is are = (is, are)

and_formed : (first : t.CondTree) (others : t.CondTrees) → IsFormedCond first → AreFormedConds others → IsFormedCond (joined t.and first others)
and_formed first t.no_cond is are = is
and_formed first (t.cond second others) is are = (is, are)

-- a variable, `in`, a path, `:` and what follows
binder_formed : (name : g.Name) (path : g.Path) (rest : List Kind) → Formed (spell_name name (k.Word (codes "in") ∷ spell_path path (k.Symbol s.Colon ∷ rest)))
    → IsName (text_of_name name) × IsFormedRooted (tree_path path) × Formed rest
binder_formed name path rest formed =
    let (named, behind) = name_formed name (k.Word (codes "in") ∷ spell_path path (k.Symbol s.Colon ∷ rest)) formed in
    let (on, end) = path_formed path (k.Symbol s.Colon ∷ rest) behind.1 in
    (named, on, end.1)

mutual
  cond_formed : (cond : g.Cond) (rest : List Kind) → Formed (spell_cond cond rest) → IsFormedCond (tree_cond cond) × Formed rest
  cond_formed (g.conjs first others) rest formed =
      let (is, behind) = conj_formed first (spell_more_conjs others rest) formed in
      let (are, end) = more_conjs_formed others rest behind in
      (or_formed (tree_conj first) (trees_more_conjs others) is are, end)

  more_conjs_formed : (others : g.MoreConjs) (rest : List Kind) → Formed (spell_more_conjs others rest) → AreFormedConds (trees_more_conjs others) × Formed rest
  more_conjs_formed g.no_conjs rest formed = (tt, formed)
  more_conjs_formed (g.or first others) rest (word, formed) =
      let (is, behind) = conj_formed first (spell_more_conjs others rest) formed in
      let (are, end) = more_conjs_formed others rest behind in
      ((is, are), end)

  conj_formed : (conj : g.Conj) (rest : List Kind) → Formed (spell_conj conj rest) → IsFormedCond (tree_conj conj) × Formed rest
  conj_formed (g.unaries first others) rest formed =
      let (is, behind) = unary_formed first (spell_more_unaries others rest) formed in
      let (are, end) = more_unaries_formed others rest behind in
      (and_formed (tree_unary first) (trees_more_unaries others) is are, end)

  more_unaries_formed : (others : g.MoreUnaries) (rest : List Kind) → Formed (spell_more_unaries others rest) → AreFormedConds (trees_more_unaries others) × Formed rest
  more_unaries_formed g.no_unaries rest formed = (tt, formed)
  more_unaries_formed (g.and first others) rest (word, formed) =
      let (is, behind) = unary_formed first (spell_more_unaries others rest) formed in
      let (are, end) = more_unaries_formed others rest behind in
      ((is, are), end)

  unary_formed : (unary : g.Unary) (rest : List Kind) → Formed (spell_unary unary rest) → IsFormedCond (tree_unary unary) × Formed rest
  unary_formed (g.not body) rest (word, formed) = unary_formed body rest formed
  unary_formed (g.parens inner) rest (paren, formed) = let (is, end) = cond_formed inner (k.Symbol s.RightParen ∷ rest) formed in (is, end.1)
  unary_formed (g.exists name path body) rest (word, formed) =
      let (named, on, behind) = binder_formed name path (spell_unary body rest) formed in
      let (is, end) = unary_formed body rest behind in
      ((named, on, is), end)
  unary_formed (g.for_all name path body) rest (word, (more, formed)) =
      let (named, on, behind) = binder_formed name path (spell_unary body rest) formed in
      let (is, end) = unary_formed body rest behind in
      ((named, on, is), end)
  unary_formed (g.compare left by right) rest formed =
      let (is, behind) = operand_formed left (spell_op by (spell_operand right rest)) formed in
      let (also, end) = operand_formed right rest (op_formed by (spell_operand right rest) behind) in
      ((is, also), end)
  unary_formed (g.same left right) rest formed =
      let (is, behind) = path_formed left (k.Symbol s.SameAs ∷ spell_path right rest) formed in
      let (also, end) = path_formed right rest behind.1 in
      ((is, also), end)

-- tails and selects
range_formed : (range : g.Range) (rest : List Kind) → Formed (spell_range range rest) → IsFormedFrom (tree_range range) × Formed rest
range_formed (g.bare path) rest formed = let (on, end) = path_formed path rest formed in (record { path = on; word = tt; variable = tt }, end)
range_formed (g.variable path name) rest formed =
    let (on, behind) = path_formed path (spell_name name rest) formed in
    let (named, end) = name_formed name rest behind in
    (record { path = on; word = tt; variable = named }, end)
range_formed (g.word_variable path bound name) rest formed =
    let (on, behind) = path_formed path (k.Symbol s.At ∷ spell_name bound (spell_name name rest)) formed in
    let (walked, more) = name_formed bound (spell_name name rest) behind.1 in
    let (named, end) = name_formed name rest more in
    (record { path = on; word = walked; variable = named }, end)

from_formed : (ranges : List g.Range) (rest : List Kind) → Formed (spell_from ranges rest) → All IsFormedFrom (map tree_range ranges) × Formed rest
from_formed [] rest formed = (All-nil IsFormedFrom, formed)
from_formed (first ∷ others) rest (word, formed) =
    let (is, behind) = range_formed first (spell_each (k.Symbol s.Comma) spell_range others rest) formed in
    let (are, end) = each_formed (k.Symbol s.Comma) spell_range tree_range IsFormedFrom range_formed others rest behind in
    (All-cons IsFormedFrom (tree_range first) (map tree_range others) is are, end)

where_formed : (cond : Option g.Cond) (rest : List Kind) → Formed (spell_where cond rest) → IsFormedWhere (option_map tree_cond cond) × Formed rest
where_formed None rest formed = (tt, formed)
where_formed (Some cond) rest (word, formed) = cond_formed cond rest formed

tail_formed : (end : g.Tail) (rest : List Kind) → Formed (spell_tail end rest) → IsFormedTail (tree_tail end) × Formed rest
tail_formed (g.tail ranges cond) rest formed =
    let (are, behind) = from_formed ranges (spell_where cond rest) formed in
    let (is, end) = where_formed cond rest behind in
    (record { ranges = are; cond = is }, end)

item_formed : (item : g.Item) (rest : List Kind) → Formed (spell_item item rest) → IsFormedItem (tree_item item) × Formed rest
item_formed (g.object path) rest formed = path_formed path rest formed
item_formed (g.path_of name) rest (word, (paren, formed)) = let (named, end) = name_formed name (k.Symbol s.RightParen ∷ rest) formed in (named, end.1)

select_formed : (query : g.Select) (rest : List Kind) → Formed (spell_select query rest) → IsFormedSelect (tree_select query) × Formed rest
select_formed (g.query first others tail) rest (word, formed) =
    let (is, behind) = item_formed first (spell_each (k.Symbol s.Comma) spell_item others (spell_tail tail rest)) formed in
    let (are, more) = each_formed (k.Symbol s.Comma) spell_item tree_item IsFormedItem item_formed others (spell_tail tail rest) behind in
    let (last, end) = tail_formed tail rest more in
    (record { items = All-cons IsFormedItem (tree_item first) (map tree_item others) is are; tail = last }, end)

-- dump texts
mode_formed : (mode : Mode) (rest : List Kind) → Formed (spell_mode mode rest) → Formed rest
mode_formed Auto rest (form, formed) = formed
mode_formed Top rest (form, formed) = formed
mode_formed Bottom rest (form, formed) = formed
mode_formed Guided rest (form, formed) = formed

dump_name_formed : (entry : g.Name × Oid) (rest : List Kind) → Formed (spell_dump_name entry rest) → IsFormedName (entry_of_name entry) × Formed rest
dump_name_formed (name, oid) rest formed = let (named, end) = name_formed name (k.Local oid.0 ∷ rest) formed in ((named, end.0), end.1)

dump_object_formed : (entry : Oid × Value) (rest : List Kind) → Formed (spell_dump_object entry rest) → IsFormedObject entry × Formed rest
dump_object_formed (oid, value) rest (form, formed) = let (sized, end) = value_formed value rest formed in ((form, sized), end)

dump_edge_formed : (entry : Oid × g.Label × Oid) (rest : List Kind) → Formed (spell_dump_edge entry rest) → IsFormedEdge (entry_of_edge entry) × Formed rest
dump_edge_formed (parent, label, child) rest (form, formed) = let (named, end) = label_formed label (k.Local child.0 ∷ rest) formed in ((form, named, end.0), end.1)

objects_formed : (all : List (Oid × Value)) (rest : List Kind) → Formed (spell_dump_objects all rest) → All IsFormedObject all × Formed rest
objects_formed [] rest formed = (All-nil IsFormedObject, formed)
objects_formed (first ∷ others) rest (form, formed) =
    let (is, behind) = dump_object_formed first (spell_dump_objects others rest) formed in
    let (are, end) = objects_formed others rest behind in
    (All-cons IsFormedObject first others is are, end)

dump_formed : (text : g.DumpText) (rest : List Kind) → Formed (spell_dump_text text rest) → IsFormedDump (tree_dump_text text) × Formed rest
dump_formed (g.dump_text version next nodes mode labels names objects edges) rest (oem, (first, (word, (second, (other, (third, (plan, formed))))))) =
    let end = k.Word (codes "end") ∷ rest in
    let behind = mode_formed mode _ formed in
    let (labelled, on_names) = each_formed (k.Word (codes "label")) spell_label text_of_label IsLabel label_formed labels _ behind in
    let (named, on_objects) = each_formed (k.Word (codes "name")) spell_dump_name entry_of_name IsFormedName dump_name_formed names _ on_names in
    let (valued, on_edges) = objects_formed objects _ on_objects in
    let (joined, last) = each_formed (k.Word (codes "edge")) spell_dump_edge entry_of_edge IsFormedEdge dump_edge_formed edges end on_edges in
    (record { version = first; next = second; nodes = third; labels = labelled; names = named; objects = valued; edges = joined }, last.1)

-- statements
statement_formed : (by : g.Statement) → Formed (spell_statement by []) → IsFormedStatement (tree_statement by)
statement_formed (g.load name literal) (word, formed) =
    let (named, behind) = name_formed name (k.Symbol s.Assign ∷ spell_literal literal []) formed in
    (named, (literal_formed literal [] behind.1).0)
statement_formed (g.bind name path) (word, formed) =
    let (named, behind) = name_formed name (k.Symbol s.Assign ∷ spell_path path []) formed in
    (named, (path_formed path [] behind.1).0)
statement_formed (g.unname name) (word, formed) = (name_formed name [] formed).0
statement_formed (g.assign target value end) (word, formed) =
    let (on, behind) = path_formed target (k.Symbol s.Assign ∷ spell_value value (spell_tail end [])) formed in
    let (sized, more) = value_formed value (spell_tail end []) behind.1 in
    (on, sized, (tail_formed end [] more).0)
statement_formed (g.add target label (g.fresh literal) end) (word, formed) =
    let (on, behind) = path_formed target _ formed in
    let (named, more) = label_formed label _ behind.1 in
    let (held, last) = literal_formed literal (spell_tail end []) more.1 in
    (on, named, held, (tail_formed end [] last).0)
statement_formed (g.add target label (g.link right) end) (word, formed) =
    let (on, behind) = path_formed target _ formed in
    let (named, more) = label_formed label _ behind.1 in
    let (held, last) = path_formed right (spell_tail end []) more.1 in
    (on, named, held, (tail_formed end [] last).0)
statement_formed (g.remove target label right end) (word, formed) =
    let (on, behind) = path_formed target _ formed in
    let (named, more) = label_formed label _ behind.1 in
    let (held, last) = path_formed right (spell_tail end []) more.1 in
    (on, named, held, (tail_formed end [] last).0)
statement_formed (g.select inner) formed = (select_formed inner [] formed).0
statement_formed (g.explain inner) (word, formed) = (select_formed inner [] formed).0
statement_formed g.guide formed = tt
statement_formed (g.browse (g.walked name labels)) (word, formed) =
    let (named, behind) = name_formed name _ formed in
    (named, (each_formed (k.Symbol s.Dot) spell_label text_of_label IsLabel label_formed labels [] behind).0)
statement_formed (g.sample (g.walked name labels) count) (word, formed) =
    let (named, behind) = name_formed name _ formed in
    let (are, end) = each_formed (k.Symbol s.Dot) spell_label text_of_label IsLabel label_formed labels (k.Number count ∷ []) behind in
    (named, are, end.0)
statement_formed (g.set_nodes nodes) (word, (other, (form, end))) = form
statement_formed (g.set_plan mode) formed = tt
statement_formed g.dump formed = tt
statement_formed (g.restore text) (word, formed) = (dump_formed text [] formed).0
statement_formed (g.generate seed count) (word, (first, (second, end))) = (first, second)
statement_formed (g.history on) formed = tt
statement_formed (g.select_at moment inner) (word, (form, formed)) = (form, (select_formed inner [] formed).0)
statement_formed (g.changes from to) (word, (first, (second, end))) = (first, second)
statement_formed g.blocks formed = tt
statement_formed (g.blocks_of inner) (word, formed) = (select_formed inner [] formed).0
statement_formed (g.watch name inner) (word, formed) =
    let (named, behind) = name_formed name (k.Symbol s.Assign ∷ spell_paths inner []) formed in
    (named, (select_formed (select_of_paths inner) [] behind.1).0, paths_items inner)
statement_formed (g.unwatch name) (word, formed) = (name_formed name [] formed).0
statement_formed (g.show name) (word, formed) = (name_formed name [] formed).0

pub sound_statement : (statement : t.StatementTree) → IsSound statement → IsFormedStatement statement
sound_statement statement sound =
    subst IsFormedStatement sound.spelled.tree (statement_formed sound.spelled.by (subst Formed sound.spelled.spelled (formed_from sound.kinds sound.formed)))

pub sound_literal : (literal : t.LiteralTree) → IsSoundLiteral literal → IsFormedLiteral literal
sound_literal literal sound = subst IsFormedLiteral sound.tree (literal_formed sound.by [] (formed_from (spell_literal sound.by []) sound.formed)).0

pub sound_dump : (text : DumpTree) → IsSoundDump text → IsFormedDump text
sound_dump text sound = subst IsFormedDump sound.tree (dump_formed sound.by [] (formed_from (spell_dump_text sound.by []) sound.formed)).0
