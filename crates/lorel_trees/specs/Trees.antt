-- The trees of the language as plain data: what they are without pointers and room. Two trees are equal where
-- these are.
use Rattle.std.specs.Prelude.{ℕ, ℤ, Bool, List, [], ◌∷◌, map, Option, option_map}
use Rattle.lorel_trees.specs.Types.{Value, Op, Mode}
use Rattle.lore_base.specs.Paths.{PathTree, path_trees}
use Rattle.lorel_trees.specs.declared.rooted_paths.Rooted.{Rooted}
use Rattle.lorel_trees.specs.declared.dump_trees.DumpTree.{DumpTree}
use Rattle.lorel_trees.specs.declared.literals.Literal.{Literal, fold-Literal}
use Rattle.lorel_trees.specs.declared.literals.Literal.TheOpen.{Literal-F, MemberList-F, Member-F, Local, Atom, Node}
use Rattle.lorel_trees.specs.declared.literals.Literal.TheFolds.{fold-Member, fold-MemberList}
use Rattle.lorel_trees.specs.declared.literals.Literal.TheViews.{out-MemberList}
use Rattle.lorel_trees.specs.declared.literals.Member.{Member}
use Rattle.lorel_trees.specs.declared.literals.MemberList.{MemberList}
use Rattle.lorel_trees.specs.declared.conditions.Operand.{Operand}
use Rattle.lorel_trees.specs.declared.conditions.Operand.TheVariants as o
use Rattle.lorel_trees.specs.declared.conditions.Cond.{Cond, fold-Cond}
use Rattle.lorel_trees.specs.declared.conditions.Cond.TheOpen.{Cond-F, CondList-F, Or, And, Not, Exists, ForAll, Compare, Same}
use Rattle.lorel_trees.specs.declared.conditions.Cond.TheFolds.{fold-CondList}
use Rattle.lorel_trees.specs.declared.conditions.Cond.TheViews.{out-CondList}
use Rattle.lorel_trees.specs.declared.conditions.CondList.{CondList}
use Rattle.lorel_trees.specs.declared.selects.Item.{Item}
use Rattle.lorel_trees.specs.declared.selects.Item.TheVariants.{Object, PathOf}
use Rattle.lorel_trees.specs.declared.selects.FromItem.{FromItem}
use Rattle.lorel_trees.specs.declared.selects.Tail.{Tail}
use Rattle.lorel_trees.specs.declared.selects.Select.{Select}
use Rattle.lorel_trees.specs.declared.statements.Statement.{Statement}
use Rattle.lorel_trees.specs.declared.statements.Statement.TheVariants as s

-- a path with its start
pub record RootedTree : Type 0 where
  pub start : List ℕ
  pub parts : List PathTree

-- a literal, and the labelled members of one in text order
mutual
  pub data LiteralTree : Type 0 where
    local : (number : ℕ) → LiteralTree
    atom : (local : Option ℕ) (value : Value) → LiteralTree
    node : (local : Option ℕ) (members : MemberTrees) → LiteralTree

  pub data MemberTrees : Type 0 where
    none : MemberTrees
    more : (label : List ℕ) (literal : LiteralTree) (others : MemberTrees) → MemberTrees

-- what a comparison compares
pub data OperandTree : Type 0 where
  constant : (value : Value) → OperandTree
  at : (path : RootedTree) → OperandTree

-- a condition, and the members of an `or` or `and` in text order
mutual
  pub data CondTree : Type 0 where
    or : (members : CondTrees) → CondTree
    and : (members : CondTrees) → CondTree
    not : (body : CondTree) → CondTree
    exists : (variable : List ℕ) (path : RootedTree) (body : CondTree) → CondTree
    for_all : (variable : List ℕ) (path : RootedTree) (body : CondTree) → CondTree
    compare : (left : OperandTree) (op : Op) (right : OperandTree) → CondTree
    same : (left right : RootedTree) → CondTree

  pub data CondTrees : Type 0 where
    no_cond : CondTrees
    cond : (first : CondTree) (others : CondTrees) → CondTrees

-- an item of a select
pub data ItemTree : Type 0 where
  object : (path : RootedTree) → ItemTree
  path_of : (variable : List ℕ) → ItemTree

-- a from item: its path, its path variable and its object variable
pub record FromTree : Type 0 where
  pub path : RootedTree
  pub word : Option (List ℕ)
  pub variable : Option (List ℕ)

pub record TailTree : Type 0 where
  pub ranges : List FromTree
  pub cond : Option CondTree

pub record SelectTree : Type 0 where
  pub items : List ItemTree
  pub tail : TailTree

-- a statement, in the order of its forms in the grammar
pub data StatementTree : Type 0 where
  load : (name : List ℕ) (literal : LiteralTree) → StatementTree
  bind : (name : List ℕ) (path : RootedTree) → StatementTree
  unname : (name : List ℕ) → StatementTree
  assign : (target : RootedTree) (value : Value) (tail : TailTree) → StatementTree
  add_new : (target : RootedTree) (label : List ℕ) (literal : LiteralTree) (tail : TailTree) → StatementTree
  add_link : (target : RootedTree) (label : List ℕ) (right : RootedTree) (tail : TailTree) → StatementTree
  remove : (target : RootedTree) (label : List ℕ) (right : RootedTree) (tail : TailTree) → StatementTree
  select : (query : SelectTree) → StatementTree
  explain : (query : SelectTree) → StatementTree
  guide : StatementTree
  browse : (start : List ℕ) (labels : List (List ℕ)) → StatementTree
  sample : (start : List ℕ) (labels : List (List ℕ)) (count : ℤ) → StatementTree
  set_nodes : (nodes : ℤ) → StatementTree
  set_plan : (mode : Mode) → StatementTree
  dump : StatementTree
  restore : (text : DumpTree) → StatementTree
  generate : (seed count : ℤ) → StatementTree
  history : (on : Bool) → StatementTree
  select_at : (moment : ℤ) (query : SelectTree) → StatementTree
  changes : (first last : ℤ) → StatementTree
  blocks : StatementTree
  blocks_of : (query : SelectTree) → StatementTree
  watch : (name : List ℕ) (query : SelectTree) → StatementTree
  unwatch : (name : List ℕ) → StatementTree
  show : (name : List ℕ) → StatementTree

-- The plain data of the program's trees.

abbrev pub rooted_tree : Rooted → RootedTree
rooted_tree path = record { start = path.start; parts = path_trees path.parts }

-- a member: its label and its literal
abbrev pub MemberTree : Type 0
MemberTree = List ℕ × LiteralTree

abbrev pub members_from : List MemberTree → MemberTrees
members_from [] = none
members_from (member ∷ others) = more member.0 member.1 (members_from others)

abbrev pub literal_step : Literal-F LiteralTree MemberTree (List MemberTree) → LiteralTree
literal_step (Local number) = local number
literal_step (Atom mark value) = atom mark value
literal_step (Node mark members) = node mark (members_from members)

abbrev pub member_step : Member-F LiteralTree MemberTree (List MemberTree) → MemberTree
member_step member = (member.label, member.literal)

abbrev pub members_step : MemberList-F LiteralTree MemberTree (List MemberTree) → List MemberTree
members_step list = list.items.items

abbrev pub literal_tree : Literal → LiteralTree
literal_tree = fold-Literal LiteralTree MemberTree (List MemberTree) literal_step member_step members_step

abbrev pub member_tree : Member → MemberTree
member_tree = fold-Member LiteralTree MemberTree (List MemberTree) literal_step member_step members_step

abbrev pub member_trees : MemberList → List MemberTree
member_trees = fold-MemberList LiteralTree MemberTree (List MemberTree) literal_step member_step members_step

-- the members of a list, in order
abbrev pub members_of : MemberList → List Member
members_of list = (out-MemberList list).items.items

abbrev pub operand_tree : Operand → OperandTree
operand_tree (o.Atom value) = constant value
operand_tree (o.At path) = at (rooted_tree path)

abbrev pub conds_from : List CondTree → CondTrees
conds_from [] = no_cond
conds_from (first ∷ others) = cond first (conds_from others)

abbrev pub cond_step : Cond-F CondTree (List CondTree) → CondTree
cond_step (Or members) = or (conds_from members)
cond_step (And members) = and (conds_from members)
cond_step (Not body) = not body.value
cond_step (Exists variable path body) = exists variable (rooted_tree path) body.value
cond_step (ForAll variable path body) = for_all variable (rooted_tree path) body.value
cond_step (Compare left op right) = compare (operand_tree left) op (operand_tree right)
cond_step (Same left right) = same (rooted_tree left) (rooted_tree right)

abbrev pub conds_step : CondList-F CondTree (List CondTree) → List CondTree
conds_step list = list.items.items

abbrev pub cond_tree : Cond → CondTree
cond_tree = fold-Cond CondTree (List CondTree) cond_step conds_step

abbrev pub cond_trees : CondList → List CondTree
cond_trees = fold-CondList CondTree (List CondTree) cond_step conds_step

-- the conditions of a list, in order
abbrev pub conds_of : CondList → List Cond
conds_of list = (out-CondList list).items.items

abbrev pub item_tree : Item → ItemTree
item_tree (Object path) = object (rooted_tree path)
item_tree (PathOf variable) = path_of variable

abbrev pub from_tree : FromItem → FromTree
from_tree item = record { path = rooted_tree item.path; word = item.word; variable = item.variable }

abbrev pub tail_tree : Tail → TailTree
tail_tree tail = record { ranges = map from_tree tail.ranges; cond = option_map cond_tree tail.cond }

abbrev pub select_tree : Select → SelectTree
select_tree query = record { items = map item_tree query.items; tail = tail_tree query.tail }

abbrev pub statement_tree : Statement → StatementTree
statement_tree (s.Load name literal) = load name (literal_tree literal)
statement_tree (s.Name name path) = bind name (rooted_tree path)
statement_tree (s.Unname name) = unname name
statement_tree (s.Assign target value tail) = assign (rooted_tree target) value (tail_tree tail)
statement_tree (s.AddNew target label literal tail) =
    add_new (rooted_tree target) label (literal_tree literal) (tail_tree tail)
statement_tree (s.AddLink target label right tail) =
    add_link (rooted_tree target) label (rooted_tree right) (tail_tree tail)
statement_tree (s.Remove target label right tail) =
    remove (rooted_tree target) label (rooted_tree right) (tail_tree tail)
statement_tree (s.Select query) = select (select_tree query)
statement_tree (s.Explain query) = explain (select_tree query)
statement_tree s.Guide = guide
statement_tree (s.Browse path) = browse path.start path.labels
statement_tree (s.Sample path count) = sample path.start path.labels count
statement_tree (s.SetNodes nodes) = set_nodes nodes
statement_tree (s.SetPlan mode) = set_plan mode
statement_tree s.Dump = dump
statement_tree (s.Restore text) = restore text
statement_tree (s.Generate seed count) = generate seed count
statement_tree (s.History on) = history on
statement_tree (s.At moment query) = select_at moment (select_tree query)
statement_tree (s.ChangesList first last) = changes first last
statement_tree s.Blocks = blocks
statement_tree (s.BlocksSelect query) = blocks_of (select_tree query)
statement_tree (s.Watch name query) = watch name (select_tree query)
statement_tree (s.Unwatch name) = unwatch name
statement_tree (s.Show name) = show name
