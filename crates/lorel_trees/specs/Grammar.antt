-- The grammar of statements. A value of `Statement` is a derivation of a statement by the rules that stand
-- above the data types: one type for each rule, and one constructor for each of its alternatives, in their
-- order. Where a rule repeats, what is repeated is a list; where it leaves a choice that a declared type has,
-- as an operator, it is that type. What a derivation spells, the tree that it stands for and how deep it
-- nests stand in Paths, Literals, Conditions, Selects and Statements.
use Rattle.std.specs.Prelude.{◌≡◌, ℕ, ℤ, Bool, false, List, Option}
use Rattle.lorel_trees.specs.Types.{Oid, Value, Op, Mode}
use Rattle.lore_base.specs.Names.{is_reserved}

-- name = identifier that isn't reserved
pub data Name : Type 0 where
  free : (text : List ℕ) → is_reserved text ≡ false → Name

-- label = identifier | quoted label
pub data Label : Type 0 where
  word : (text : List ℕ) → Label
  quoted : (text : List ℕ) → Label

-- lpath = name { "." label }
pub data LabelPath : Type 0 where
  walked : Name → (labels : List Label) → LabelPath

mutual
  -- alt = seq { "|" seq }
  pub data Alt : Type 0 where
    choice : Seq → Choices → Alt

  -- { "|" seq }
  pub data Choices : Type 0 where
    no_choices : Choices
    bar : Seq → Choices → Choices

  -- seq = part { part }
  pub data Seq : Type 0 where
    sequence : Part → Parts → Seq

  -- { part }
  pub data Parts : Type 0 where
    no_parts : Parts
    part : Part → Parts → Parts

  -- part = base [ "?" | "*" | "+" ]
  pub data Part : Type 0 where
    once : Base → Part
    question : Base → Part
    star : Base → Part
    plus : Base → Part

  -- base = "." label | "." pattern | "." "#" | "(" alt ")"
  pub data Base : Type 0 where
    label : Label → Base
    pattern : (text : List ℕ) → Base
    hash : Base
    group : Alt → Base

-- path = name { part }
pub data Path : Type 0 where
  rooted : Name → Parts → Path

-- atom = number | text | flag
-- flag = "true" | "false"
pub data Atom : Type 0 where
  number : (value : ℤ) → Atom
  chars : (text : List ℕ) → Atom
  flag : (holds : Bool) → Atom

mutual
  -- literal = local | [ local ] atom | [ local ] "{" [ member { "," member } ] "}"
  pub data Literal : Type 0 where
    local : (id : ℕ) → Literal
    atom : (mark : Option ℕ) → Atom → Literal
    braces : (mark : Option ℕ) → Members → Literal

  -- [ member { "," member } ]
  pub data Members : Type 0 where
    no_members : Members
    members : Member → MoreMembers → Members

  -- { "," member }
  pub data MoreMembers : Type 0 where
    no_more : MoreMembers
    comma : Member → MoreMembers → MoreMembers

  -- member = label literal
  pub data Member : Type 0 where
    member : Label → Literal → Member

-- operand = atom | path
pub data Operand : Type 0 where
  constant : Atom → Operand
  reached : Path → Operand

mutual
  -- cond = conj { "or" conj }
  pub data Cond : Type 0 where
    conjs : Conj → MoreConjs → Cond

  -- { "or" conj }
  pub data MoreConjs : Type 0 where
    no_conjs : MoreConjs
    or : Conj → MoreConjs → MoreConjs

  -- conj = unary { "and" unary }
  pub data Conj : Type 0 where
    unaries : Unary → MoreUnaries → Conj

  -- { "and" unary }
  pub data MoreUnaries : Type 0 where
    no_unaries : MoreUnaries
    and : Unary → MoreUnaries → MoreUnaries

  -- unary = "not" unary | "(" cond ")" | "exists" name "in" path ":" unary
  --       | "for" "all" name "in" path ":" unary | operand op operand | path "==" path
  -- op = "=" | "!=" | "<" | "<=" | ">" | ">=" | "like"
  pub data Unary : Type 0 where
    not : Unary → Unary
    parens : Cond → Unary
    exists : Name → Path → Unary → Unary
    for_all : Name → Path → Unary → Unary
    compare : Operand → Op → Operand → Unary
    same : Path → Path → Unary

-- range = path | path name | path "@" name name
pub data Range : Type 0 where
  bare : Path → Range
  variable : Path → Name → Range
  word_variable : Path → (bound : Name) → Name → Range

-- tail = [ "from" range { "," range } ] [ "where" cond ]. No range stands for no `from`
pub data Tail : Type 0 where
  tail : (ranges : List Range) → (cond : Option Cond) → Tail

-- item = path | "path-of" "(" name ")"
pub data Item : Type 0 where
  object : Path → Item
  path_of : Name → Item

-- select = "select" item { "," item } tail
pub data Select : Type 0 where
  query : Item → (others : List Item) → Tail → Select

-- paths = "select" path { "," path } tail
pub data Paths : Type 0 where
  paths : Path → (others : List Path) → Tail → Paths

-- ( literal | path )
pub data Addition : Type 0 where
  fresh : Literal → Addition
  link : Path → Addition

-- dumptext = "oem" number "next" number "nodes" number "plan" mode { "label" label } { "name" name local }
--            { "object" local ( atom | "{" "}" ) } { "edge" local label local } "end"
-- mode = "auto" | "top" | "bottom" | "guide"
pub data DumpText : Type 0 where
  dump_text : (version next nodes : ℤ) → Mode → (labels : List Label) → (names : List (Name × Oid))
      → (objects : List (Oid × Value)) → (edges : List (Oid × Label × Oid)) → DumpText

-- statement = "load" name ":=" literal
--           | "name" name ":=" path
--           | "unname" name
--           | "update" path ":=" ( atom | "{" "}" ) tail
--           | "update" path "." label "+=" ( literal | path ) tail
--           | "update" path "." label "-=" path tail
--           | select
--           | "explain" select
--           | "guide"
--           | "browse" lpath
--           | "sample" lpath number
--           | "set" "nodes" number
--           | "set" "plan" mode
--           | "dump"
--           | "restore" dumptext
--           | "generate" number number
--           | "history" ( "on" | "off" )
--           | "at" number select
--           | "changes" number number
--           | "blocks"
--           | "blocks" select
--           | "watch" name ":=" paths
--           | "unwatch" name
--           | "show" name
pub data Statement : Type 0 where
  load : Name → Literal → Statement
  bind : Name → Path → Statement
  unname : Name → Statement
  assign : Path → Value → Tail → Statement
  add : Path → Label → Addition → Tail → Statement
  remove : Path → Label → Path → Tail → Statement
  select : Select → Statement
  explain : Select → Statement
  guide : Statement
  browse : LabelPath → Statement
  sample : LabelPath → (count : ℤ) → Statement
  set_nodes : (nodes : ℤ) → Statement
  set_plan : Mode → Statement
  dump : Statement
  restore : DumpText → Statement
  generate : (seed count : ℤ) → Statement
  history : (on : Bool) → Statement
  select_at : (moment : ℤ) → Select → Statement
  changes : (first last : ℤ) → Statement
  blocks : Statement
  blocks_of : Select → Statement
  watch : Name → Paths → Statement
  unwatch : Name → Statement
  show : Name → Statement
